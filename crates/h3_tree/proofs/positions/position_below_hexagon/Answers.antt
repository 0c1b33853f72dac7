use Rattle.std.proofs.Common.{sym, ◌∙◌, drop}
use Rattle.h3_tree.proofs.WalkLaws.{digits_below, position_in_sevens}
use Rattle.h3_tree.proofs.positions.position_below_hexagon.Goals as goal

pub in_base_seven-requires : goal.in_base_seven-requires
in_base_seven-requires c =
    rw c.digits_below.ensures.number
    (digits_below c.args.cell c.args.ancestor_res c.digits_below.ensures.valid).number_small

pub returns : goal.returns
returns c =
    let below = digits_below c.args.cell c.args.ancestor_res c.digits_below.ensures.valid in
    c.in_base_seven.ensures (drop c.args.ancestor_res c.args.cell.digits) below.small below.few
    (sym c.digits_below.ensures.number)
    ∙ position_in_sevens c.descendants_are_known.ensures c.cuts_are_cells.ensures c.args.cell c.args.ancestor_res
    c.digits_below.ensures.valid c.requires.not_finer c.requires.hexagon
