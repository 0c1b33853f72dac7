use Rattle.std.proofs.Common.{◌≡◌, ◌∙◌, sym, refl, arith, rules, not, true, false}
use Rattle.std.specs.Prelude.{◌==◌}
use Rattle.std.specs.List.{list_all}
use Rattle.h3_directions.specs.Direction.{directions}
use Rattle.h3_table.specs.Links.{links_in}
use Rattle.h3_table.specs.Checks.{are_apart}
use Rattle.h3_directions.specs.declared.direction.Direction.TheVariants.{K}
use Rattle.h3_table.proofs.FirstLaws.{each-next, each-end, both_false}
use Rattle.h3_table.proofs.checks.leads_apart.Goals as goal

pub returns-then-not-are_apart : goal.returns-then-not-are_apart
returns-then-not-are_apart c =
    let next = each-next (are_apart (links_in c.args.links.now) c.args.base c.args.direction) directions
    c.loop-other.other-index K false c.loop-other-test.true (sym c.if-not-are_apart.true ∙ c.are_apart.ensures) in
    let none : list_all (are_apart (links_in c.args.links.now) c.args.base c.args.direction) directions ≡ false =
    c.loop-other.invariant ∙ next in
    sym (both_false _ _ none)

pub loop-other-preserved : goal.loop-other-preserved
loop-other-preserved c =
    c.loop-other.invariant
    ∙ each-next (are_apart (links_in c.args.links.now) c.args.base c.args.direction) directions c.loop-other.other-index
    K true c.loop-other-test.true (sym c.if-not-are_apart.false ∙ c.are_apart.ensures)

pub returns : goal.returns
returns c =
    let n : c.loop-other.other-index ≡ 6 = omega arith in
    let all : list_all (are_apart (links_in c.args.links.now) c.args.base c.args.direction) directions ≡ true =
    (rw n at c.loop-other.invariant)
    ∙ each-end (are_apart (links_in c.args.links.now) c.args.base c.args.direction) in
    let first : not ((links_in c.args.links.now c.args.base c.args.direction).0 == c.args.base) ≡ true = search rules in
    sym (rw (first, all) refl)
