use Rattle.std.proofs.Common.{◌-◌, ◌≤◌, length, drop, take_all, arith, sym, subst}
use Rattle.std.proofs.lemmas.List.{length-drop}
use Rattle.std.proofs.lemmas.List.Sorted.{length_permutation}
use Rattle.h3_regions.specs.Areas.{AreChosen}
use Rattle.h3_regions.proofs.ApartLaws.{chosen_apart, chosen_small}
use Rattle.h3_regions.proofs.PermutedLaws.{chosen_permuted}
use Rattle.h3_regions.proofs.apart.ApartAreas.of.Goals as goal

pub returns-in-Ok-clause-chosen : goal.returns-in-Ok-clause-chosen
returns-in-Ok-clause-chosen c =
    let whole =
    take_all (length c.order_areas.new.pairs - c.in-Ok.place) (drop c.in-Ok.place c.order_areas.new.pairs)
    (omega (arith, length-drop c.in-Ok.place c.order_areas.new.pairs)) in
    subst (λ l. AreChosen l c.args.pairs.now) (sym whole)
    (chosen_permuted c.args.pairs.now c.order_areas.new.pairs c.in-Ok.place c.in-Ok.ensures.within
    c.order_areas.ensures.same)

pub returns-in-Ok-clause-apart : goal.returns-in-Ok-clause-apart
returns-in-Ok-clause-apart c =
    chosen_apart _ c.args.pairs.now (returns-in-Ok-clause-chosen c) c.in-Ok.ensures.apart

pub returns-in-Ok-clause-numbers : goal.returns-in-Ok-clause-numbers
returns-in-Ok-clause-numbers c = λ k small.
    chosen_small _ c.args.pairs.now k (returns-in-Ok-clause-chosen c) small

pub returns-in-Ok-clause-fewer : goal.returns-in-Ok-clause-fewer
returns-in-Ok-clause-fewer c =
    let whole =
    take_all (length c.order_areas.new.pairs - c.in-Ok.place) (drop c.in-Ok.place c.order_areas.new.pairs)
    (omega (arith, length-drop c.in-Ok.place c.order_areas.new.pairs)) in
    subst (λ l. length l ≤ length c.args.pairs.now) (sym whole)
    (omega (
      arith,
      length-drop c.in-Ok.place c.order_areas.new.pairs,
      length_permutation c.args.pairs.now c.order_areas.new.pairs c.order_areas.ensures.same,
    ))
