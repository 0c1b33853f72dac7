use Rattle.std.proofs.Common.{◌≡◌, ◌∙◌, ◌<◌, All, List, None, Option, Some, ap, codes, length, refl, rules, subst, sym, ℕ}
use Rattle.std.proofs.KnownBytes.{Keeps-refl}
use Rattle.std.proofs.Math.Path.{fun_ext}
use Rattle.std.proofs.lemmas.Result.{err_from_is_err_and}
use Rattle.std.proofs.lemmas.List.{length-map}
use Rattle.h3_index.specs.Cell.{number_of}
use Rattle.h3_index.specs.Text.{text_of}
use Rattle.h3_lines.specs.Answer.{written}
use Rattle.h3_lines.specs.Reads.{source_use}
use Rattle.h3_lines.specs.Write.{sink_use}
use Rattle.h3_regions.specs.Refusals.{areas_refusal}
use Rattle.h3_rows.specs.Named.{Entry, table_of}
use Rattle.h3_rows.specs.declared.table.FieldContent.TheVariants.{Number}
use Rattle.h3_command.specs.Run.{EndsEntries}
use Rattle.h3_command.specs.SumAnswers.{amounts_among, sum_titles}
use Rattle.h3_command.specs.SumTables.{sums_table}
use Rattle.h3_command.specs.ZoneSums.{zones_have_header}
use Rattle.h3_command.specs.ZoneTally.{placed, zone_texts}
use Rattle.h3_command.proofs.Endings.{entries_unread}
use Rattle.h3_command.proofs.SummedAreas.{alike_sums}
use Rattle.h3_command.proofs.SummedZones.{placed_below, placed_kept, sums_placed}
use Rattle.h3_command.proofs.zone_sums.sum_zones.Goals as goal

pub returns-in_err-texts : goal.returns-in_err-texts
returns-in_err-texts g c =
    let p = err_from_is_err_and c.from_residual.result c.from_residual.ensures.1 in
    let input = source_use g.R.Source.left g.R.Source.has_failed c.args.input.now c.args.input.now in
    let out = sink_use g.W.Sink.taken g.W.Sink.has_failed c.args.out.now c.args.out.now in
    rw (p.1, p.2, c.in_err-texts.ensures.err)
    (entries_unread (table_of c.args.list.now c.args.field.now Number) _ input out refl refl (Keeps-refl _, refl))

pub returns-in_err-pairs : goal.returns-in_err-pairs
returns-in_err-pairs g c =
    let p = err_from_is_err_and c.from_residual-in_err-pairs.result c.from_residual-in_err-pairs.ensures.1 in
    let input = source_use g.R.Source.left g.R.Source.has_failed c.args.input.now c.args.input.now in
    let out = sink_use g.W.Sink.taken g.W.Sink.has_failed c.args.out.now c.args.out.now in
    rw (p.1, p.2, c.in_err-pairs.ensures.err)
    (entries_unread (table_of c.args.list.now c.args.field.now Number) _ input out refl refl (Keeps-refl _, refl))

pub returns-in_err-slots : goal.returns-in_err-slots
returns-in_err-slots g c =
    let p = err_from_is_err_and c.from_residual-in_err-slots.result c.from_residual-in_err-slots.ensures.1 in
    let input = source_use g.R.Source.left g.R.Source.has_failed c.args.input.now c.args.input.now in
    let out = sink_use g.W.Sink.taken g.W.Sink.has_failed c.args.out.now c.args.out.now in
    rw (p.1, p.2, c.in_err-slots.ensures.err)
    (entries_unread (table_of c.args.list.now c.args.field.now Number) _ input out refl refl (Keeps-refl _, refl))

pub returns-in_err-places-in-Ok : goal.returns-in_err-places-in-Ok
returns-in_err-places-in-Ok g c =
    let p =
    err_from_is_err_and c.from_residual-in_err-places-in-Ok.result c.from_residual-in_err-places-in-Ok.ensures.1 in
    let input = source_use g.R.Source.left g.R.Source.has_failed c.args.input.now c.args.input.now in
    let out = sink_use g.W.Sink.taken g.W.Sink.has_failed c.args.out.now c.args.out.now in
    rw (p.1, p.2, c.in_err-places-in-Ok.ensures)
    (entries_unread (table_of c.args.list.now c.args.field.now Number) _ input out refl refl (Keeps-refl _, refl))

pub sum_found-requires-clause-small : goal.sum_found-requires-clause-small
sum_found-requires-clause-small g c =
    let zones = c.args.zones.now in
    let numbers = rw (c.deref_mut.ensures.value, c.in_ok-pairs.ensures.ok) at c.in-Ok.ensures.numbers in
    let size : length zones ≡ length (zone_texts zones) = sym (length-map zones (λ z. text_of (number_of z))) in
    let below = subst (λ n. All (λ p. p.1 < n) c.in-Ok.areas) size (numbers (length zones) (placed_below zones)) in
    rw c.in_ok-texts.ensures.ok below

pub unreachable-requires : goal.unreachable-requires
unreachable-requires g c =
    let told : areas_refusal c.in_ok-pairs.pairs.items ≡ Some c.in-Err.field-0.error = search rules in
    let kept = placed_kept c.areas_are_lawful.ensures.clashes c.args.zones.now c.requires.apart in
    let never : None ≡ Some c.in-Err.field-0.error =
    sym kept ∙ ap areas_refusal (sym c.in_ok-pairs.ensures.ok) ∙ told in
    cc

pub returns : goal.returns
returns g c =
    let input = source_use g.R.Source.left g.R.Source.has_failed c.args.input.now c.sum_found.new.input in
    let out = sink_use g.W.Sink.taken g.W.Sink.has_failed c.args.out.now c.sum_found.new.out in
    let zones = c.args.zones.now in
    let list = c.args.list.now in
    let alike = rw (c.deref_mut.ensures.value, c.in_ok-pairs.ensures.ok) at c.in-Ok.ensures.alike in
    let form = c.zone_form-form.ensures in
    let found =
    rw (form.separator, form.header, form.title, form.none, c.in_ok-texts.ensures.ok) at c.sum_found.ensures in
    let titles : List Entry → Option (List ℕ × List ℕ) =
    λ rows. sum_titles (zones_have_header c.args.file.now list) (codes "zone") rows in
    subst
    (λ about. EndsEntries (table_of list c.args.field.now Number) about input c.sum_found.result out)
    (fun_ext (λ rows. ap (λ r. written (sums_table list.separator (titles rows) r))
    (alike_sums c.areas_are_lawful.ensures.tested c.in-Ok.areas (placed 0 zones) alike (codes "0") (zone_texts zones)
    (amounts_among list.quotes rows)
    ∙ sums_placed zones (amounts_among list.quotes rows)))) found
