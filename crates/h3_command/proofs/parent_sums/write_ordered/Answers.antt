use Rattle.std.proofs.Common.{ℕ, List, Option, option_map, take}
use Rattle.std.proofs.lemmas.Result.{err_from_is_err_and}
use Rattle.std.specs.List.{flat_map}
use Rattle.h3_lines.specs.EachLaws.{moves_then, push_more, push_then}
use Rattle.h3_lines.specs.Write.{sink_use}
use Rattle.h3_command.specs.ParentEntries.{amounts_of}
use Rattle.h3_command.specs.ParentSums.{parent_sums}
use Rattle.h3_command.specs.SumTables.{sum_row, sums_table, titles_row}
use Rattle.h3_command.proofs.RowsPut.{push_written, writes_held}
use Rattle.h3_command.proofs.parent_sums.write_ordered.Goals as goal

pub returns-in_err-end : goal.returns-in_err-end
returns-in_err-end g c =
    let p = err_from_is_err_and c.from_residual.result c.from_residual.ensures.1 in
    let titles : Option (List ℕ × List ℕ) = option_map (λ t. (t.0.now, t.1.now)) c.args.titles in
    let sums = parent_sums (amounts_of c.args.pairs.now) in
    let out = sink_use g.W.Sink.taken g.W.Sink.has_failed c.args.out.now c.put_titles.new.out in
    rw (p.1, p.2) (push_written (sums_table c.args.separator titles sums) out
    (push_more (titles_row c.args.separator titles) (flat_map (sum_row c.args.separator) sums) out
    c.in_err-end.ensures.err))

pub returns-in_err-end-2 : goal.returns-in_err-end-2
returns-in_err-end-2 g c =
    let p = err_from_is_err_and c.from_residual-in_err-end-2.result c.from_residual-in_err-end-2.ensures.1 in
    let titles : Option (List ℕ × List ℕ) = option_map (λ t. (t.0.now, t.1.now)) c.args.titles in
    let sums = parent_sums (amounts_of c.args.pairs.now) in
    let out = sink_use g.W.Sink.taken g.W.Sink.has_failed c.args.out.now c.put_sums.new.out in
    rw (p.1, p.2) (push_written (sums_table c.args.separator titles sums) out
    (push_then g.W.Sink.taken g.W.Sink.has_failed (titles_row c.args.separator titles) _
    (flat_map (sum_row c.args.separator) sums) _ _ _ c.in_ok-end.ensures.ok c.in_err-end-2.ensures.err))

pub returns : goal.returns
returns g c =
    let titles : Option (List ℕ × List ℕ) = option_map (λ t. (t.0.now, t.1.now)) c.args.titles in
    let sums = parent_sums (amounts_of c.args.pairs.now) in
    let held = take c.in_ok-end-2.end c.put_sums.new.block in
    writes_held g.W.Sink.taken g.W.Sink.has_failed _ _ _ (sums_table c.args.separator titles sums) held
    c.write_answer.result
    (moves_then g.W.Sink.taken g.W.Sink.has_failed (titles_row c.args.separator titles) _
    (flat_map (sum_row c.args.separator) sums) held _ _ _ c.in_ok-end.ensures.ok c.in_ok-end-2.ensures.ok)
    c.write_answer.ensures
