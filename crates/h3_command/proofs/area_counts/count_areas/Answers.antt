use Rattle.std.proofs.Common.{◌≡◌, ◌<◌, None, ap, length, rules, true}
use Rattle.std.proofs.lemmas.List.Sorted.{All-permutation, IsPermutation-trans}
use Rattle.h3_lines.specs.Reads.{source_use}
use Rattle.h3_lines.specs.Write.{sink_use}
use Rattle.h3_regions.specs.Refusals.{areas_refusal}
use Rattle.h3_command.specs.Areas.{overlap_error}
use Rattle.h3_command.proofs.AreasCounted.{ends_counted}
use Rattle.h3_command.proofs.Joining.{apart_judged}
use Rattle.h3_command.proofs.SummedAreas.{permuted_alike}
use Rattle.h3_command.proofs.area_counts.count_areas.Goals as goal

pub count_apart-requires : goal.count_apart-requires
count_apart-requires g c =
    let numbers = rw c.deref_mut.ensures.value at c.in-Ok.ensures.numbers in
    numbers (length c.args.table.now.names.spans.items) c.requires

pub count_in_each-requires-clause-small : goal.count_in_each-requires-clause-small
count_in_each-requires-clause-small g c =
    let given = rw c.deref_mut.ensures.value at c.in-Err.ensures.same in
    c.of-areas.ensures.numbers (length c.args.table.now.names.spans.items)
    (All-permutation (λ p. p.1 < length c.args.table.now.names.spans.items) c.args.table.now.cells.items
    c.in-Err.refused.pairs.now given c.requires)

pub returns-in-Ok : goal.returns-in-Ok
returns-in-Ok g c = λ entries holds.
    let input = source_use g.R.Source.left g.R.Source.has_failed c.args.input.now c.count_apart.new.input in
    let out = sink_use g.W.Sink.taken g.W.Sink.has_failed c.args.out.now c.count_apart.new.out in
    let free : areas_refusal c.args.table.now.cells.items ≡ None = search rules in
    let alike = rw c.deref_mut.ensures.value at c.in-Ok.ensures.alike in
    ends_counted c.areas_are_lawful.ensures.alike c.args.options.now c.args.list.now entries c.args.table.now
    c.in-Ok.areas c.name_of_column-title.result.now input c.count_apart.result out
    holds (apart_judged c.args.options.now.overlapping c.args.table.now.cells.items free) alike
    c.name_of_column-title.ensures c.count_apart.ensures

pub returns : goal.returns
returns g c = λ entries holds.
    let input = source_use g.R.Source.left g.R.Source.has_failed c.args.input.now c.count_in_each.new.input in
    let out = sink_use g.W.Sink.taken g.W.Sink.has_failed c.args.out.now c.count_in_each.new.out in
    let given = rw c.deref_mut.ensures.value at c.in-Err.ensures.same in
    let same =
    IsPermutation-trans c.args.table.now.cells.items c.in-Err.refused.pairs.now c.of-areas.result given
    c.of-areas.ensures.same in
    let may : c.args.options.now.overlapping ≡ true = search rules in
    ends_counted c.areas_are_lawful.ensures.alike c.args.options.now c.args.list.now entries c.args.table.now
    c.of-areas.result c.name_of_column-title.result.now input c.count_in_each.result out
    holds (ap (λ b. overlap_error b c.args.table.now.cells.items) may)
    (permuted_alike c.areas_are_lawful.ensures.in_any_order c.args.table.now.cells.items c.of-areas.result same)
    c.name_of_column-title.ensures c.count_in_each.ensures
