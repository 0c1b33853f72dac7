use Rattle.std.proofs.Common.{◌≡◌, ◌∙◌, sym, refl, arith, true, false}
use Rattle.std.specs.List.{list_all}
use Rattle.h3_directions.specs.Direction.{directions}
use Rattle.h3_table.specs.FormatTwo.{in_range_two, is_link_two}
use Rattle.h3_directions.specs.declared.direction.Direction.TheVariants.{K}
use Rattle.h3_table.proofs.FirstLaws.{each-next, each-end, both_false}
use Rattle.h3_table.proofs.SlotLaws.{in_range_two-true}
use Rattle.h3_table.proofs.format_two.in_range.Goals as goal

pub returns-then-not-is_link-clause-is : goal.returns-then-not-is_link-clause-is
returns-then-not-is_link-clause-is c =
    let next =
    each-next (is_link_two c.args.numbers.now) directions c.loop-direction.direction-index K false
    c.loop-direction-test.true (sym c.if-not-is_link.true ∙ c.is_link.ensures) in
    let none : list_all (is_link_two c.args.numbers.now) directions ≡ false = c.loop-direction.invariant.1 ∙ next in
    sym (both_false _ _ none)

pub loop-direction-preserved : goal.loop-direction-preserved
loop-direction-preserved c = (
  c.loop-direction.invariant.0,
  c.loop-direction.invariant.1
      ∙ each-next (is_link_two c.args.numbers.now) directions c.loop-direction.direction-index K true
      c.loop-direction-test.true (sym c.if-not-is_link.false ∙ c.is_link.ensures),
)

pub returns-clause-is : goal.returns-clause-is
returns-clause-is c =
    let n : c.loop-direction.direction-index ≡ 6 = omega arith in
    let all : list_all (is_link_two c.args.numbers.now) directions ≡ true =
    (rw n at c.loop-direction.invariant.1) ∙ each-end (is_link_two c.args.numbers.now) in
    sym (rw (c.loop-direction.invariant.0, all) refl)

pub returns-clause-bounds : goal.returns-clause-bounds
returns-clause-bounds c = λ t.
    let n : c.loop-direction.direction-index ≡ 6 = omega arith in
    let all : list_all (is_link_two c.args.numbers.now) directions ≡ true =
    (rw n at c.loop-direction.invariant.1) ∙ each-end (is_link_two c.args.numbers.now) in
    let whole : in_range_two c.args.numbers.now ≡ true = rw (c.loop-direction.invariant.0, all) refl in
    in_range_two-true c.args.numbers.now whole
