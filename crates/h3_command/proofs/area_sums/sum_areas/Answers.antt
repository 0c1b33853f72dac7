use Rattle.std.proofs.Common.{◌≡◌, ◌<◌, ◌∙◌, All, None, Some, ap, false, inr, length, refl, rules, subst, sym, true}
use Rattle.std.proofs.KnownBytes.{Keeps-refl}
use Rattle.std.proofs.lemmas.List.{length-map}
use Rattle.std.proofs.lemmas.List.Sorted.{All-permutation, IsPermutation-trans}
use Rattle.h3_lines.specs.Reads.{source_use}
use Rattle.h3_lines.specs.Write.{sink_use}
use Rattle.h3_regions.specs.Refusals.{areas_refusal}
use Rattle.h3_rows.specs.Areas.{area_cells, span_in}
use Rattle.h3_rows.specs.Named.{table_of}
use Rattle.h3_rows.specs.declared.table.FieldContent.TheVariants.{Number}
use Rattle.h3_command.specs.Areas.{overlap_error}
use Rattle.h3_command.proofs.Joining.{apart_judged}
use Rattle.h3_command.proofs.SummedAreas.{ends_summed, permuted_alike}
use Rattle.h3_command.proofs.area_sums.sum_areas.Goals as goal

pub sum_found-requires-clause-small : goal.sum_found-requires-clause-small
sum_found-requires-clause-small g c =
    let numbers = rw c.deref_mut.ensures.value at c.in-Ok.ensures.numbers in
    let names = c.args.table.now.names in
    subst (λ n. All (λ p. p.1 < n) c.in-Ok.areas) (sym (length-map names.spans.items (span_in names.bytes.items)))
    (numbers (length names.spans.items) c.requires.small)

pub sum_found-requires-in-Err-clause-small : goal.sum_found-requires-in-Err-clause-small
sum_found-requires-in-Err-clause-small g c =
    let given = rw c.deref_mut.ensures.value at c.in-Err.ensures.same in
    let names = c.args.table.now.names in
    subst (λ n. All (λ p. p.1 < n) c.of-areas.result) (sym (length-map names.spans.items (span_in names.bytes.items)))
    (c.of-areas.ensures.numbers (length names.spans.items) (All-permutation (λ p. p.1 < length names.spans.items)
    c.args.table.now.cells.items c.in-Err.refused.pairs.now given c.requires.small))

pub returns-in-Ok : goal.returns-in-Ok
returns-in-Ok g c = λ zones holds.
    let input = source_use g.R.Source.left g.R.Source.has_failed c.args.input.now c.sum_found.new.input in
    let out = sink_use g.W.Sink.taken g.W.Sink.has_failed c.args.out.now c.sum_found.new.out in
    let free : areas_refusal c.args.table.now.cells.items ≡ None = search rules in
    let alike = rw c.deref_mut.ensures.value at c.in-Ok.ensures.alike in
    ends_summed c.areas_are_lawful.ensures.tested (table_of c.args.list.now c.args.field.now Number) c.args.options.now
    c.args.list.now zones c.args.table.now c.in-Ok.areas c.name_of_column-title.result.now input c.sum_found.result
    out
    holds (apart_judged c.args.options.now.overlapping c.args.table.now.cells.items free) alike
    c.name_of_column-title.ensures
    (rw (
      c.area_form-form.ensures.separator,
      c.area_form-form.ensures.header,
      c.area_form-form.ensures.title,
      c.area_form-form.ensures.none,
    ) at c.sum_found.ensures)

pub returns-then-not-options : goal.returns-then-not-options
returns-then-not-options g c = λ zones holds.
    let told : areas_refusal c.args.table.now.cells.items ≡ Some c.in-Err.refused.error = search rules in
    let may_not : c.args.options.now.overlapping ≡ false = search rules in
    let refused =
    ap (λ b. overlap_error b (area_cells c.args.options.now.table.rows.quotes zones)) may_not
    ∙ ap areas_refusal (sym holds.cells) ∙ told in
    inr (inr (c.in-Err.refused.error, refused, refl, (refl, refl), (Keeps-refl _, refl)))

pub returns : goal.returns
returns g c = λ zones holds.
    let input = source_use g.R.Source.left g.R.Source.has_failed c.args.input.now c.sum_found-in-Err.new.input in
    let out = sink_use g.W.Sink.taken g.W.Sink.has_failed c.args.out.now c.sum_found-in-Err.new.out in
    let given = rw c.deref_mut.ensures.value at c.in-Err.ensures.same in
    let same =
    IsPermutation-trans c.args.table.now.cells.items c.in-Err.refused.pairs.now c.of-areas.result given
    c.of-areas.ensures.same in
    let may : c.args.options.now.overlapping ≡ true = search rules in
    ends_summed c.areas_are_lawful.ensures.tested (table_of c.args.list.now c.args.field.now Number) c.args.options.now
    c.args.list.now zones c.args.table.now c.of-areas.result c.name_of_column-title.result.now input
    c.sum_found-in-Err.result out
    holds (ap (λ b. overlap_error b c.args.table.now.cells.items) may)
    (permuted_alike c.areas_are_lawful.ensures.in_any_order c.args.table.now.cells.items c.of-areas.result same)
    c.name_of_column-title.ensures
    (rw (
      c.area_form-form.ensures.separator,
      c.area_form-form.ensures.header,
      c.area_form-form.ensures.title,
      c.area_form-form.ensures.none,
    ) at c.sum_found-in-Err.ensures)
