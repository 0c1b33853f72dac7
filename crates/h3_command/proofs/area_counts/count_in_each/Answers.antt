use Rattle.std.proofs.Common.{◌≡◌, ◌++◌, ◌∷◌, [], ◌∙◌, ap, arith, if◌then◌else◌, inl, length, List, None, Option, refl, replicate, rules, Some, string_bytes, subst, sym, ℕ}
use Rattle.std.proofs.lemmas.Grind.{common_steps}
use Rattle.std.proofs.KnownBytes.{Keeps-refl}
use Rattle.std.proofs.lemmas.List.{length-map, length-replicate}
use Rattle.std.proofs.lemmas.Result.{err_from_is_err_and}
use Rattle.h3_index.specs.Cell.{Address}
use Rattle.h3_lines.specs.Answer.{Answer, written}
use Rattle.h3_lines.specs.Reads.{source_use}
use Rattle.h3_lines.specs.Write.{Writes, sink_use}
use Rattle.h3_lines.specs.declared.run_error.Fault.TheVariants.{Memory}
use Rattle.h3_lines.specs.declared.run_error.RunError.TheVariants.{Fault}
use Rattle.h3_rows.specs.Areas.{names_in, span_in}
use Rattle.h3_lines.specs.List.{itself}
use Rattle.h3_command.specs.AreaCounts.{area_counts, counts_table, has_header}
use Rattle.h3_command.specs.AreaTally.{named_counts}
use Rattle.h3_command.specs.OverlapTally.{AreCountsByAreas}
use Rattle.h3_command.specs.Rows.{list_form}
use Rattle.h3_command.proofs.Endings.{list_unread}
use Rattle.h3_command.proofs.ListedCells.{numbered_ends, numbered_unanswered}
use Rattle.h3_command.proofs.OverlapCounts.{counts_by_areas_named, nothing_counted_by_areas}
use Rattle.h3_command.proofs.area_counts.count_in_each.Goals as goal

pub returns-in_err-numbers : goal.returns-in_err-numbers
returns-in_err-numbers g c =
    let p = err_from_is_err_and c.from_residual.result c.from_residual.ensures.1 in
    let input = source_use g.R.Source.left g.R.Source.has_failed c.args.input.now c.args.input.now in
    let out = sink_use g.W.Sink.taken g.W.Sink.has_failed c.args.out.now c.args.out.now in
    let options = c.args.options.now in
    let list = c.args.list.now in
    let names = names_in c.args.names.now.bytes.items c.args.names.now.spans.items in
    let title : Option (List ℕ) = if has_header options list then Some c.args.title.now else None in
    let about : List Address → Answer =
    λ cells. written (counts_table options.table.rows.separator title
    (area_counts (string_bytes options.none) names c.args.areas cells)) in
    rw (p.1, p.2, c.in_err-numbers.ensures.err)
    (list_unread (list_form list) about input out refl refl (Keeps-refl _, refl))

pub returns-in_err-counts : goal.returns-in_err-counts
returns-in_err-counts g c =
    let p = err_from_is_err_and c.from_residual-in_err-counts.result c.from_residual-in_err-counts.ensures.1 in
    let out_of_memory : c.in_err-counts.field-0.0 ≡ Fault Memory = search rules in
    let input = source_use g.R.Source.left g.R.Source.has_failed c.args.input.now c.args.input.now in
    let out = sink_use g.W.Sink.taken g.W.Sink.has_failed c.args.out.now c.args.out.now in
    let options = c.args.options.now in
    let list = c.args.list.now in
    let names = names_in c.args.names.now.bytes.items c.args.names.now.spans.items in
    let title : Option (List ℕ) = if has_header options list then Some c.args.title.now else None in
    let about : List Address → Answer =
    λ cells. written (counts_table options.table.rows.separator title
    (area_counts (string_bytes options.none) names c.args.areas cells)) in
    rw (p.1, p.2, out_of_memory) (list_unread (list_form list) about input out refl refl (Keeps-refl _, refl))

pub returns-in_err-tally : goal.returns-in_err-tally
returns-in_err-tally g c =
    let p = err_from_is_err_and c.from_residual-in_err-tally.result c.from_residual-in_err-tally.ensures.1 in
    let input = source_use g.R.Source.left g.R.Source.has_failed c.args.input.now c.take_listed.new.input in
    let out = sink_use g.W.Sink.taken g.W.Sink.has_failed c.args.out.now c.args.out.now in
    let options = c.args.options.now in
    let list = c.args.list.now in
    let names = names_in c.args.names.now.bytes.items c.args.names.now.spans.items in
    let title : Option (List ℕ) = if has_header options list then Some c.args.title.now else None in
    let about : List Address → Answer =
    λ cells. written (counts_table options.table.rows.separator title
    (area_counts (string_bytes options.none) names c.args.areas cells)) in
    rw (p.1, p.2)
    (numbered_unanswered itself (list_form list) about input _ out c.in_err-tally.ensures.refused (Keeps-refl _, refl))

pub returns : goal.returns
returns g c =
    let (cells, gives, (same, (long, more))) = c.in_ok-tally.ensures.taken in
    let input = source_use g.R.Source.left g.R.Source.has_failed c.args.input.now c.take_listed.new.input in
    let out = sink_use g.W.Sink.taken g.W.Sink.has_failed c.args.out.now c.write_area_counts.new.out in
    let options = c.args.options.now in
    let list = c.args.list.now in
    let names = names_in c.args.names.now.bytes.items c.args.names.now.spans.items in
    let title : Option (List ℕ) = if has_header options list then Some c.args.title.now else None in
    let about : List Address → Answer =
    λ cells. written (counts_table options.table.rows.separator title
    (area_counts (string_bytes options.none) names c.args.areas cells)) in
    let spans = c.args.names.now.spans.items in
    let counts = c.in_ok-tally.tally.counts.items in
    let others = c.in_ok-tally.tally.none in
    let none = string_bytes options.none in
    let areas = c.args.areas in
    let zeros : c.in_ok-counts.counts.items ≡ replicate (length spans) 0 =
    first_of (search rules, grind (arith, common_steps)) in
    let start = subst (λ l. AreCountsByAreas areas [] l 0) (sym zeros) (nothing_counted_by_areas areas (length spans))
    in
    let told : AreCountsByAreas areas cells counts others = more [] start in
    let size : length counts ≡ length names =
    long ∙ ap length zeros ∙ length-replicate (length spans) 0
    ∙ sym (length-map spans (span_in c.args.names.now.bytes.items)) in
    let rows = counts_by_areas_named names none areas cells counts others size told in
    let wrote : Writes (written (counts_table options.table.rows.separator title
    (named_counts names counts (length counts) ++ (none, others) ∷ []))) c.write_area_counts.result out =
    rw (c.header_title-title.ensures, c.deref.ensures.value, c.as_bytes.ensures.value) at c.write_area_counts.ensures in
    let answered =
    subst (λ r. Writes
    (written (counts_table options.table.rows.separator title r)) c.write_area_counts.result out) rows wrote in
    numbered_ends itself (list_form list) about cells input _ out gives (inl answered)
