use Rattle.std.proofs.Common.{inr, refl}
use Rattle.std.proofs.KnownBytes.{Keeps-refl}
use Rattle.std.proofs.lemmas.Result.{err_from_is_err_and}
use Rattle.h3_lines.specs.Reads.{source_use}
use Rattle.h3_lines.specs.Write.{sink_use}
use Rattle.h3_rows.specs.Named.{names_table}
use Rattle.h3_command.specs.AreaCounts.{area_counts_answer}
use Rattle.h3_command.specs.Rows.{list_form}
use Rattle.h3_lines.specs.List.{itself}
use Rattle.h3_command.specs.Run.{EndsNumberedList}
use Rattle.h3_command.proofs.AreasCounted.{numbered_below}
use Rattle.h3_command.proofs.AreasRead.{ends_judged}
use Rattle.h3_command.proofs.area_counts.count_over_areas.Goals as goal

pub count_areas-requires : goal.count_areas-requires
count_areas-requires g c =
    let (bytes, held, entries, reads, holds) = c.in_ok-table.ensures.table in
    numbered_below c.areas_divide_cells.ensures.numbers c.args.options.now.table.rows.quotes entries c.in_ok-table.table
    holds

pub returns-in_err-table : goal.returns-in_err-table
returns-in_err-table g c =
    let p = err_from_is_err_and c.from_residual.result c.from_residual.ensures.1 in
    let (bytes, held, refused) = c.in_err-table.ensures.refused in
    rw (p.1, p.2) (bytes, held, inr (refused c.args.options.now.overlapping, (refl, refl), (Keeps-refl _, refl)))

pub returns : goal.returns
returns g c =
    let (bytes, held, entries, reads, holds) = c.in_ok-table.ensures.table in
    let input = source_use g.R.Source.left g.R.Source.has_failed c.args.input.now c.count_areas.new.input in
    let file = source_use g.T.Source.left g.T.Source.has_failed c.args.file.now c.read_table.new.file in
    let out = sink_use g.W.Sink.taken g.W.Sink.has_failed c.args.out.now c.count_areas.new.out in
    let options = c.args.options.now in
    let list = c.args.list.now in
    ends_judged options.overlapping (names_table options.table) (λ entries. EndsNumberedList itself (list_form list)
    (area_counts_answer options list entries) input c.count_areas.result out)
    bytes entries input file c.count_areas.result out held reads (c.count_areas.ensures entries holds)
