use Rattle.std.proofs.Common.{◌≡◌, None, rules, true}
use Rattle.std.proofs.lemmas.List.Sorted.{IsPermutation-trans}
use Rattle.h3_lines.specs.Reads.{source_use}
use Rattle.h3_lines.specs.Write.{sink_use}
use Rattle.h3_regions.specs.Refusals.{areas_refusal}
use Rattle.h3_command.proofs.AreasAnswered.{ends_apart, ends_overlapping}
use Rattle.h3_command.proofs.areas.answer_areas.Goals as goal

pub returns-in-Ok : goal.returns-in-Ok
returns-in-Ok g c = λ entries holds.
    let input = source_use g.R.Source.left g.R.Source.has_failed c.args.input.now c.answer_apart.new.input in
    let out = sink_use g.W.Sink.taken g.W.Sink.has_failed c.args.out.now c.answer_apart.new.out in
    let laws = c.areas_are_lawful.ensures in
    let free : areas_refusal c.args.table.now.cells.items ≡ None = search rules in
    let alike = rw c.deref_mut.ensures.value at c.in-Ok.ensures.alike in
    let ends = rw c.as_bytes-none.ensures.value at c.answer_apart.ensures in
    ends_apart laws.alike laws.clashes c.args.options.now.overlapping c.args.options.now c.args.rows.now entries
    c.args.table.now c.in-Ok.areas c.name_of_column-column.result.now input c.answer_apart.result out
    holds free alike c.in-Ok.ensures.apart c.name_of_column-column.ensures ends

pub returns : goal.returns
returns g c = λ entries holds.
    let input = source_use g.R.Source.left g.R.Source.has_failed c.args.input.now c.answer_several.new.input in
    let out = sink_use g.W.Sink.taken g.W.Sink.has_failed c.args.out.now c.answer_several.new.out in
    let given = rw c.deref_mut.ensures.value at c.in-Err.ensures.same in
    let same =
    IsPermutation-trans c.args.table.now.cells.items c.in-Err.refused.pairs.now c.of-areas.result given
    c.of-areas.ensures.same in
    let ends = rw c.as_bytes-none.ensures.value at c.answer_several.ensures in
    let may : c.args.options.now.overlapping ≡ true = search rules in
    rw may
    (ends_overlapping c.areas_are_lawful.ensures.in_any_order c.args.options.now c.args.rows.now entries
    c.args.table.now
    c.of-areas.result c.name_of_column-column.result.now input c.answer_several.result out
    holds same c.name_of_column-column.ensures ends)
