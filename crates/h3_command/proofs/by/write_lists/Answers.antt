use Rattle.std.proofs.Common.{◌++◌, [], ℕ, List, get_or, length, option_map, take}
use Rattle.std.proofs.lemmas.Result.{err_from_is_err_and}
use Rattle.std.specs.List.{flat_map, range_with_len}
use Rattle.h3_lines.specs.EachLaws.{moves_then, push_more, push_then}
use Rattle.h3_lines.specs.Write.{sink_use}
use Rattle.h3_command.specs.By.{title_row, value_lines}
use Rattle.h3_command.specs.ByValue.{part_of}
use Rattle.h3_rows.specs.Areas.{names_in}
use Rattle.h3_command.proofs.CountRows.{push_written, writes_held}
use Rattle.h3_command.proofs.by.write_lists.Goals as goal

pub returns-in_err-end : goal.returns-in_err-end
returns-in_err-end g c =
    let p = err_from_is_err_and c.from_residual.result c.from_residual.ensures.1 in
    let names = names_in c.args.names.now.bytes.items c.args.names.now.spans.items in
    let text : ℕ → List ℕ =
    λ n. value_lines c.args.separator (get_or names n [])
    (g.F.ListOfValue.listed c.args.function.now (part_of c.args.cells.now (get_or c.args.parts.now n (0, 0)))) in
    let header = title_row c.args.separator (option_map (λ t. t.now) c.args.title) in
    let lists = flat_map text (range_with_len 0 (length c.args.parts.now)) in
    let out = sink_use g.W.Sink.taken g.W.Sink.has_failed c.args.out.now c.put_title.new.out in
    rw (p.1, p.2) (push_written (header ++ lists) out (push_more header lists out c.in_err-end.ensures.err))

pub returns-in_err-end-2 : goal.returns-in_err-end-2
returns-in_err-end-2 g c =
    let p = err_from_is_err_and c.from_residual-in_err-end-2.result c.from_residual-in_err-end-2.ensures.1 in
    let names = names_in c.args.names.now.bytes.items c.args.names.now.spans.items in
    let text : ℕ → List ℕ =
    λ n. value_lines c.args.separator (get_or names n [])
    (g.F.ListOfValue.listed c.args.function.now (part_of c.args.cells.now (get_or c.args.parts.now n (0, 0)))) in
    let header = title_row c.args.separator (option_map (λ t. t.now) c.args.title) in
    let lists = flat_map text (range_with_len 0 (length c.args.parts.now)) in
    let out = sink_use g.W.Sink.taken g.W.Sink.has_failed c.args.out.now c.put_lists.new.out in
    rw (p.1, p.2) (push_written (header ++ lists) out (push_then g.W.Sink.taken g.W.Sink.has_failed header _ lists _ _ _
    c.in_ok-end.ensures.ok c.in_err-end-2.ensures.err))

pub returns : goal.returns
returns g c =
    let names = names_in c.args.names.now.bytes.items c.args.names.now.spans.items in
    let text : ℕ → List ℕ =
    λ n. value_lines c.args.separator (get_or names n [])
    (g.F.ListOfValue.listed c.args.function.now (part_of c.args.cells.now (get_or c.args.parts.now n (0, 0)))) in
    let header = title_row c.args.separator (option_map (λ t. t.now) c.args.title) in
    let lists = flat_map text (range_with_len 0 (length c.args.parts.now)) in
    let held = take c.in_ok-end-2.end c.put_lists.new.block in
    let all =
    moves_then g.W.Sink.taken g.W.Sink.has_failed header _ lists held _ _ _ c.in_ok-end.ensures.ok
    c.in_ok-end-2.ensures.ok in
    writes_held g.W.Sink.taken g.W.Sink.has_failed _ _ _
    (header ++ lists) held c.write_answer.result all c.write_answer.ensures
