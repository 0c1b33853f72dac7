use Rattle.std.proofs.Common.{◌≡◌, ◌+◌, ◌/◌, ◌%◌, ◌-◌, ◌^◌, arith, ap, subst, sym, ◌∙◌, length}
use Rattle.h3_index.specs.Cell.{IsCell}
use Rattle.h3_index.specs.Descendants.{descendants}
use Rattle.h3_tree.proofs.WalkLaws.{IsChildBelow, below_center, below_hexagon, below_pentagon}
use Rattle.h3_tree.proofs.positions.child_below.Goals as goal

pub returns-then-not-is_pentagon-clause-below : goal.returns-then-not-is_pentagon-clause-below
returns-then-not-is_pentagon-clause-below c =
    let outer : c.power_of_seven-outer.result ≡ 7 ^ (c.args.r - length c.args.cell.digits - 1) =
    c.power_of_seven-outer.ensures.is ∙ ap (λ n. 7 ^ (c.args.r - n - 1)) c.requires.own in
    let shown =
    below_hexagon c.descendants_are_known.ensures c.args.cell c.args.r c.args.position c.power_of_seven-outer.result
    c.requires.valid (omega (arith, c.requires.own, c.requires.finer)) c.requires.at_most_fifteen
    (sym c.is_pentagon.ensures ∙ c.if-not-is_pentagon.true) outer c.requires.within in
    rw c.child.ensures.is (shown.below (subst IsCell c.child.ensures.is c.child.ensures.valid))

pub returns-then-position-size-clause-below : goal.returns-then-position-size-clause-below
returns-then-position-size-clause-below c =
    let outer : c.power_of_seven-outer.result ≡ 7 ^ (c.args.r - length c.args.cell.digits - 1) =
    c.power_of_seven-outer.ensures.is ∙ ap (λ n. 7 ^ (c.args.r - n - 1)) c.requires.own in
    rw c.child-center.ensures.is (below_center c.descendants_are_known.ensures c.args.cell c.args.r c.args.position
    c.size_at-size.result c.power_of_seven-outer.result c.requires.valid
    (omega (arith, c.requires.own, c.requires.finer)) c.requires.at_most_fifteen
    (c.size_at-size.ensures.count ∙ ap (λ m. length (descendants m c.args.r)) c.child-center.ensures.is) outer
    c.if-position-size.true (subst IsCell c.child-center.ensures.is c.child-center.ensures.valid))

shown : (c : goal.Else-position-size)
    → IsChildBelow c.args.cell c.args.r c.args.position
    (2 + (c.args.position - c.size_at-size.result) / c.power_of_seven-outer.result)
    ((c.args.position - c.size_at-size.result) % c.power_of_seven-outer.result)
shown c =
    let outer : c.power_of_seven-outer.result ≡ 7 ^ (c.args.r - length c.args.cell.digits - 1) =
    c.power_of_seven-outer.ensures.is ∙ ap (λ n. 7 ^ (c.args.r - n - 1)) c.requires.own in
    below_pentagon c.descendants_are_known.ensures c.args.cell c.args.r c.args.position c.size_at-size.result
    c.power_of_seven-outer.result c.requires.valid (omega (arith, c.requires.own, c.requires.finer))
    c.requires.at_most_fifteen
    (c.size_at-size.ensures.count ∙ ap (λ m. length (descendants m c.args.r)) c.child-center.ensures.is) outer
    c.if-position-size.false c.requires.within (sym c.is_pentagon.ensures ∙ c.if-not-is_pentagon.false)

pub overflow_cast-beyond : goal.overflow_cast-beyond
overflow_cast-beyond c = record { fits = omega (arith, (shown c).small) }

pub overflow_add-beyond : goal.overflow_add-beyond
overflow_add-beyond c = record { fits = omega (arith, (shown c).small) }

pub child-requires-2-clause-at_most_six : goal.child-requires-2-clause-at_most_six
child-requires-2-clause-at_most_six c = (shown c).small

pub returns-clause-below : goal.returns-clause-below
returns-clause-below c =
    let outer : c.power_of_seven-outer.result ≡ 7 ^ (c.args.r - length c.args.cell.digits - 1) =
    c.power_of_seven-outer.ensures.is ∙ ap (λ n. 7 ^ (c.args.r - n - 1)) c.requires.own in
    let shown =
    below_pentagon c.descendants_are_known.ensures c.args.cell c.args.r c.args.position c.size_at-size.result
    c.power_of_seven-outer.result c.requires.valid (omega (arith, c.requires.own, c.requires.finer))
    c.requires.at_most_fifteen
    (c.size_at-size.ensures.count ∙ ap (λ m. length (descendants m c.args.r)) c.child-center.ensures.is) outer
    c.if-position-size.false c.requires.within (sym c.is_pentagon.ensures ∙ c.if-not-is_pentagon.false) in
    rw c.child-2.ensures.is (shown.below (subst IsCell c.child-2.ensures.is c.child-2.ensures.valid))
