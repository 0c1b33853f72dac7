use Rattle.std.proofs.Common.{sym, ◌≡◌, ◌+◌, ◌-◌, drop, length, arith}
use Rattle.std.specs.Int.Digits.{number_from_digits}
use Rattle.h3_tree.specs.Positions.{position_under}
use Rattle.h3_index.specs.Descendants.{ancestor_at}
use Rattle.h3_tree.proofs.PentagonPositionLaws.{below_pentagon, deleted}
use Rattle.h3_tree.proofs.WalkLaws.{digits_below}
use Rattle.h3_tree.proofs.positions.position_below_pentagon.Goals as goal

pub in_base_seven-requires : goal.in_base_seven-requires
in_base_seven-requires c =
    rw c.digits_below-digits.ensures.number
    (digits_below c.args.cell c.args.ancestor_res c.digits_below-digits.ensures.valid).number_small

pub deleted_below-requires : goal.deleted_below-requires
deleted_below-requires c =
    rw c.digits_below-digits.ensures.number
    (digits_below c.args.cell c.args.ancestor_res c.digits_below-digits.ensures.valid).fifteen

shown : (c : goal.After-deleted_below)
    → position_under (ancestor_at c.args.cell c.args.ancestor_res) c.args.cell + c.deleted_below.result
    ≡ c.in_base_seven.result
shown c =
    let below = digits_below c.args.cell c.args.ancestor_res c.digits_below-digits.ensures.valid in
    let here =
    below_pentagon c.descendants_are_known.ensures c.cuts_are_cells.ensures c.args.cell
    (length c.args.cell.digits - c.args.ancestor_res) c.args.ancestor_res c.digits_below-digits.ensures.valid
    (omega (arith, c.requires.not_finer)) c.requires.pentagon in
    let seven : c.in_base_seven.result ≡ number_from_digits 7 (drop c.args.ancestor_res c.args.cell.digits) =
    c.in_base_seven.ensures (drop c.args.ancestor_res c.args.cell.digits) below.small below.few
    (sym c.digits_below-digits.ensures.number) in
    let less : c.deleted_below.result ≡ deleted here.places =
    c.deleted_below.ensures here.places (rw c.digits_below-digits.ensures.number here.small)
    (λ some. rw c.digits_below-digits.ensures.number (here.least some)) in
    omega (arith, here.is, seven, less)

pub overflow_sub-result : goal.overflow_sub-result
overflow_sub-result c = omega (arith, shown c)

pub returns : goal.returns
returns c = omega (arith, shown c)
