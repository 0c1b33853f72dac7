use Rattle.std.proofs.Common.{◌≡◌, [], ◌∙◌, ap, arith, inl, inr, length, refl, subst, unwrap_or, codes}
use Rattle.std.proofs.KnownBytes.{Keeps-refl}
use Rattle.std.proofs.lemmas.Result.{err_from_is_err_and}
use Rattle.h3_lines.specs.Answer.{written}
use Rattle.h3_lines.specs.Reads.{source_use}
use Rattle.h3_lines.specs.Write.{Writes, sink_use}
use Rattle.h3_rows.specs.Named.{table_of}
use Rattle.h3_rows.specs.declared.table.FieldContent.TheVariants.{Number}
use Rattle.h3_command.specs.SumAnswers.{amounts_among, sum_titles, title_or_sum}
use Rattle.h3_command.specs.SumRows.{titles_of}
use Rattle.h3_command.specs.SumTally.{AreAreaSums}
use Rattle.h3_command.specs.SumTables.{sums_table}
use Rattle.h3_command.proofs.Endings.{entries_unread}
use Rattle.h3_command.proofs.SummedAreas.{nothing_summed, sums_named}
use Rattle.h3_command.proofs.area_sums.sum_found.Goals as goal

pub returns-in_err-numbers : goal.returns-in_err-numbers
returns-in_err-numbers g c =
    let p = err_from_is_err_and c.from_residual.result c.from_residual.ensures.1 in
    let input = source_use g.R.Source.left g.R.Source.has_failed c.args.input.now c.args.input.now in
    let out = sink_use g.W.Sink.taken g.W.Sink.has_failed c.args.out.now c.args.out.now in
    rw (p.1, p.2, c.in_err-numbers.ensures.err)
    (entries_unread (table_of c.args.list.now c.args.field.now Number) _ input out refl refl (Keeps-refl _, refl))

pub returns-in_err-sums : goal.returns-in_err-sums
returns-in_err-sums g c =
    let p = err_from_is_err_and c.from_residual-in_err-sums.result c.from_residual-in_err-sums.ensures.1 in
    let input = source_use g.R.Source.left g.R.Source.has_failed c.args.input.now c.args.input.now in
    let out = sink_use g.W.Sink.taken g.W.Sink.has_failed c.args.out.now c.args.out.now in
    rw (p.1, p.2, c.in_err-sums.ensures.err)
    (entries_unread (table_of c.args.list.now c.args.field.now Number) _ input out refl refl (Keeps-refl _, refl))

pub returns-in_err-tally : goal.returns-in_err-tally
returns-in_err-tally g c =
    let p = err_from_is_err_and c.from_residual-in_err-tally.result c.from_residual-in_err-tally.ensures.1 in
    rw (p.1, p.2) (inr (c.in_err-tally.ensures.refused, (Keeps-refl _, refl)))

pub returns : goal.returns
returns g c =
    let (rows, all, more) = c.in_ok-tally.ensures.taken in
    let out = sink_use g.W.Sink.taken g.W.Sink.has_failed c.args.out.now c.write_sums.new.out in
    let form = c.args.form.now in
    let list = c.args.list.now in
    let names = g.N.RowNames.names c.args.names.now in
    let areas = g.F.FindAreas.areas c.args.finder in
    let sums = c.in_ok-tally.tally.sums.items in
    let others = c.in_ok-tally.tally.none in
    let amounts = amounts_among list.quotes rows in
    let start =
    nothing_summed areas c.in_ok-sums.sums.items c.new.result c.in_ok-sums.ensures.counts c.in_ok-sums.ensures.units
    c.new.ensures.count c.new.ensures.units in
    let told : AreAreaSums areas amounts sums others = more.more [] start in
    let size : length sums ≡ length names =
    omega (arith, more.size, c.in_ok-sums.ensures.size, c.count.ensures) in
    let table = sums_named names form.none.now areas amounts sums others size told in
    let sum_is : c.sum_title.result.now ≡ title_or_sum rows =
    c.sum_title.ensures ∙ ap (λ t. unwrap_or t (codes "sum")) more.title_is in
    let titled =
    c.titles_if-titles.ensures ∙ ap (λ t. titles_of form.has_header form.title.now t) sum_is in
    let wrote = rw (titled, c.deref.ensures.value) at c.write_sums.ensures in
    let answered =
    subst (λ r. Writes (written
    (sums_table form.separator (sum_titles form.has_header form.title.now rows) r)) c.write_sums.result out) table wrote
    in
    inl (rows, (c.in_ok-tally.ensures.sound, all), inl answered)
