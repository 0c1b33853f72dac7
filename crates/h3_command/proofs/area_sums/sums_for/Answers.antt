use Rattle.std.proofs.Common.{◌≡◌, ◌∙◌, ap, arith, get_or, length, replicate}
use Rattle.std.proofs.lemmas.List.{get_or-replicate, length-replicate}
use Rattle.h3_numbers.specs.Sum.{sum_count, sum_units}
use Rattle.h3_numbers.specs.declared.sum.Sum.{Sum}
use Rattle.h3_command.proofs.area_sums.sums_for.Goals as goal

pub returns-in-Ok-clause-counts : goal.returns-in-Ok-clause-counts
returns-in-Ok-clause-counts c = λ k d lt.
    let all : c.in-Ok.sums.items ≡ replicate {A = Sum} c.args.count c.new.result =
    c.in-Ok.ensures.items_if_clones_equal (λ y. c.clones_are_equal.ensures.sums c.new.result y) in
    let size = ap length all ∙ length-replicate {A = Sum} c.args.count c.new.result in
    ap (λ l. sum_count (get_or l k d)) all
    ∙ ap sum_count (get_or-replicate c.args.count k c.new.result d (omega (arith, lt, size))) ∙ c.new.ensures.count

pub returns-in-Ok-clause-units : goal.returns-in-Ok-clause-units
returns-in-Ok-clause-units c = λ k d lt.
    let all : c.in-Ok.sums.items ≡ replicate {A = Sum} c.args.count c.new.result =
    c.in-Ok.ensures.items_if_clones_equal (λ y. c.clones_are_equal.ensures.sums c.new.result y) in
    let size = ap length all ∙ length-replicate {A = Sum} c.args.count c.new.result in
    ap (λ l. sum_units (get_or l k d)) all
    ∙ ap sum_units (get_or-replicate c.args.count k c.new.result d (omega (arith, lt, size))) ∙ c.new.ensures.units
