use Rattle.std.proofs.Common.{ℕ, List, Option, option_map, take}
use Rattle.std.proofs.lemmas.Result.{err_from_is_err_and}
use Rattle.std.specs.List.{flat_map}
use Rattle.h3_lines.specs.EachLaws.{moves_then, push_more, push_then}
use Rattle.h3_lines.specs.Write.{sink_use}
use Rattle.h3_command.specs.AreaCounts.{count_row, counts_table, header_row}
use Rattle.h3_command.specs.Parents.{parent_counts}
use Rattle.h3_command.proofs.CountRows.{push_written, writes_held}
use Rattle.h3_command.proofs.parents.write_ordered.Goals as goal

pub returns-in_err-end : goal.returns-in_err-end
returns-in_err-end g c =
    let p = err_from_is_err_and c.from_residual.result c.from_residual.ensures.1 in
    let title : Option (List ℕ) = option_map (λ t. t.now) c.args.title in
    let header = header_row c.args.separator title in
    let rows = flat_map (count_row c.args.separator) (parent_counts c.args.cells.now) in
    let out = sink_use g.W.Sink.taken g.W.Sink.has_failed c.args.out.now c.put_header.new.out in
    rw (p.1, p.2) (push_written (counts_table c.args.separator title (parent_counts c.args.cells.now)) out
    (push_more header rows out c.in_err-end.ensures.err))

pub returns-in_err-end-2 : goal.returns-in_err-end-2
returns-in_err-end-2 g c =
    let p = err_from_is_err_and c.from_residual-in_err-end-2.result c.from_residual-in_err-end-2.ensures.1 in
    let title : Option (List ℕ) = option_map (λ t. t.now) c.args.title in
    let header = header_row c.args.separator title in
    let rows = flat_map (count_row c.args.separator) (parent_counts c.args.cells.now) in
    let out = sink_use g.W.Sink.taken g.W.Sink.has_failed c.args.out.now c.put_counts.new.out in
    rw (p.1, p.2) (push_written (counts_table c.args.separator title (parent_counts c.args.cells.now)) out
    (push_then g.W.Sink.taken g.W.Sink.has_failed header _ rows _ _ _ c.in_ok-end.ensures.ok
    c.in_err-end-2.ensures.err))

pub returns : goal.returns
returns g c =
    let title : Option (List ℕ) = option_map (λ t. t.now) c.args.title in
    let header = header_row c.args.separator title in
    let rows = flat_map (count_row c.args.separator) (parent_counts c.args.cells.now) in
    let held = take c.in_ok-end-2.end c.put_counts.new.block in
    writes_held g.W.Sink.taken g.W.Sink.has_failed _ _ _
    (counts_table c.args.separator title (parent_counts c.args.cells.now)) held c.write_answer.result
    (moves_then g.W.Sink.taken g.W.Sink.has_failed header _ rows held _ _ _ c.in_ok-end.ensures.ok
    c.in_ok-end-2.ensures.ok) c.write_answer.ensures
