use Rattle.std.proofs.Common.{◌++◌, ◌∷◌, [], ℕ, List, Option, length, option_map, subst, take}
use Rattle.std.proofs.lemmas.Result.{err_from_is_err_and}
use Rattle.std.specs.List.{flat_map}
use Rattle.h3_lines.specs.Answering.{FailsPush, Moves}
use Rattle.h3_lines.specs.EachLaws.{moves_then, push_more, push_then}
use Rattle.h3_lines.specs.Write.{sink_use}
use Rattle.h3_rows.specs.Areas.{names_in}
use Rattle.h3_command.specs.AreaCounts.{count_row, counts_table, header_row}
use Rattle.h3_command.specs.AreaTally.{named_counts}
use Rattle.h3_command.proofs.CountRows.{push_written, table_parts, writes_held}
use Rattle.h3_command.proofs.area_counts.write_area_counts.Goals as goal

pub returns-in_err-end : goal.returns-in_err-end
returns-in_err-end g c =
    let p = err_from_is_err_and c.from_residual.result c.from_residual.ensures.1 in
    let separator = c.args.separator in
    let title : Option (List ℕ) = option_map (λ t. t.now) c.args.title in
    let named =
    named_counts (names_in c.args.names.now.bytes.items c.args.names.now.spans.items) c.args.counts.now
    (length c.args.counts.now) in
    let none : List ℕ × ℕ = (c.args.none.0.now, c.args.none.1) in
    let header = header_row separator title in
    let rows = flat_map (count_row separator) named in
    let last = count_row separator none in
    let out = sink_use g.W.Sink.taken g.W.Sink.has_failed c.args.out.now c.put_header.new.out in
    let fails = push_more (header ++ rows) last out (push_more header rows out c.in_err-end.ensures.err) in
    let all = subst (λ l. FailsPush l out) (table_parts separator title named none) fails in
    rw (p.1, p.2) (push_written (counts_table separator title (named ++ none ∷ [])) out all)

pub returns-in_err-end-2 : goal.returns-in_err-end-2
returns-in_err-end-2 g c =
    let p = err_from_is_err_and c.from_residual-in_err-end-2.result c.from_residual-in_err-end-2.ensures.1 in
    let separator = c.args.separator in
    let title : Option (List ℕ) = option_map (λ t. t.now) c.args.title in
    let named =
    named_counts (names_in c.args.names.now.bytes.items c.args.names.now.spans.items) c.args.counts.now
    (length c.args.counts.now) in
    let none : List ℕ × ℕ = (c.args.none.0.now, c.args.none.1) in
    let header = header_row separator title in
    let rows = flat_map (count_row separator) named in
    let last = count_row separator none in
    let out = sink_use g.W.Sink.taken g.W.Sink.has_failed c.args.out.now c.put_rows.new.out in
    let more =
    push_then g.W.Sink.taken g.W.Sink.has_failed header _ rows _ _ _ c.in_ok-end.ensures.ok
    c.in_err-end-2.ensures.err in
    let all =
    subst (λ l. FailsPush l out) (table_parts separator title named none)
    (push_more (header ++ rows) last out more) in
    rw (p.1, p.2) (push_written (counts_table separator title (named ++ none ∷ [])) out all)

pub returns-in_err-end-3 : goal.returns-in_err-end-3
returns-in_err-end-3 g c =
    let p = err_from_is_err_and c.from_residual-in_err-end-3.result c.from_residual-in_err-end-3.ensures.1 in
    let separator = c.args.separator in
    let title : Option (List ℕ) = option_map (λ t. t.now) c.args.title in
    let named =
    named_counts (names_in c.args.names.now.bytes.items c.args.names.now.spans.items) c.args.counts.now
    (length c.args.counts.now) in
    let none : List ℕ × ℕ = (c.args.none.0.now, c.args.none.1) in
    let header = header_row separator title in
    let rows = flat_map (count_row separator) named in
    let last = count_row separator none in
    let out = sink_use g.W.Sink.taken g.W.Sink.has_failed c.args.out.now c.put_row.new.out in
    let so_far =
    moves_then g.W.Sink.taken g.W.Sink.has_failed header _ rows _ _ _ _ c.in_ok-end.ensures.ok
    c.in_ok-end-2.ensures.ok in
    let more =
    push_then g.W.Sink.taken g.W.Sink.has_failed (header ++ rows) _ last _ _ _ so_far c.in_err-end-3.ensures.err in
    let all = subst (λ l. FailsPush l out) (table_parts separator title named none) more in
    rw (p.1, p.2) (push_written (counts_table separator title (named ++ none ∷ [])) out all)

pub returns : goal.returns
returns g c =
    let separator = c.args.separator in
    let title : Option (List ℕ) = option_map (λ t. t.now) c.args.title in
    let named =
    named_counts (names_in c.args.names.now.bytes.items c.args.names.now.spans.items) c.args.counts.now
    (length c.args.counts.now) in
    let none : List ℕ × ℕ = (c.args.none.0.now, c.args.none.1) in
    let header = header_row separator title in
    let rows = flat_map (count_row separator) named in
    let last = count_row separator none in
    let held = take c.in_ok-end-3.end c.put_row.new.block in
    let so_far =
    moves_then g.W.Sink.taken g.W.Sink.has_failed header _ rows _ _ _ _ c.in_ok-end.ensures.ok
    c.in_ok-end-2.ensures.ok in
    let more =
    moves_then g.W.Sink.taken g.W.Sink.has_failed
    (header ++ rows) _ last held _ _ _ so_far c.in_ok-end-3.ensures.ok in
    let all =
    subst (λ l. Moves g.W.Sink.taken g.W.Sink.has_failed l held c.args.out.now c.put_row.new.out)
    (table_parts separator title named none) more in
    writes_held g.W.Sink.taken g.W.Sink.has_failed _ _ _ (counts_table separator title (named ++ none ∷
    [])) held c.write_answer.result all c.write_answer.ensures
