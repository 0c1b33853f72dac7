use Rattle.std.proofs.Common.{inr, refl}
use Rattle.std.proofs.KnownBytes.{Keeps-refl}
use Rattle.std.proofs.lemmas.Result.{err_from_is_err_and}
use Rattle.h3_lines.specs.Reads.{source_use}
use Rattle.h3_lines.specs.Write.{sink_use}
use Rattle.h3_command.proofs.AreasAnswered.{name_lines_uncut, none_line_uncut}
use Rattle.h3_command.proofs.AreasRead.{ends_over}
use Rattle.h3_command.proofs.areas.answer_over_areas.Goals as goal

pub answer_areas-requires-clause-lines : goal.answer_areas-requires-clause-lines
answer_areas-requires-clause-lines g c =
    let (bytes, held, entries, reads, holds) = c.in_ok-table.ensures.table in
    let file = source_use g.T.Source.left g.T.Source.has_failed c.args.file.now c.read_table.new.file in
    name_lines_uncut c.areas_divide_cells.ensures.fields c.args.options.now bytes file entries c.in_ok-table.table reads
    holds

pub answer_areas-requires-clause-line : goal.answer_areas-requires-clause-line
answer_areas-requires-clause-line g c =
    let (bytes, held, entries, reads, holds) = c.in_ok-table.ensures.table in
    none_line_uncut c.args.options.now entries c.in_ok-table.table holds

pub returns-in_err-table : goal.returns-in_err-table
returns-in_err-table g c =
    let p = err_from_is_err_and c.from_residual.result c.from_residual.ensures.1 in
    let (bytes, held, refused) = c.in_err-table.ensures.refused in
    rw (p.1, p.2) (bytes, held, inr (refused c.args.options.now.overlapping, (refl, refl), (Keeps-refl _, refl)))

pub returns : goal.returns
returns g c =
    let (bytes, held, entries, reads, holds) = c.in_ok-table.ensures.table in
    let input = source_use g.R.Source.left g.R.Source.has_failed c.args.input.now c.answer_areas.new.input in
    let file = source_use g.T.Source.left g.T.Source.has_failed c.args.file.now c.read_table.new.file in
    let out = sink_use g.W.Sink.taken g.W.Sink.has_failed c.args.out.now c.answer_areas.new.out in
    ends_over c.args.options.now c.args.rows.now bytes entries input file c.answer_areas.result out held reads
    (c.answer_areas.ensures entries holds)
