use Rattle.std.proofs.Common.{◌≡◌, ◌<◌, ℕ, List, Err, ap, arith, get_or, length, option_map, refl, rules, subst, sym, ◌∙◌}
use Rattle.std.proofs.KnownBytes.{Keeps-refl}
use Rattle.std.proofs.lemmas.List.{length-map}
use Rattle.std.specs.List.{range_with_len}
use Rattle.h3_lines.specs.Write.{Writes, sink_use}
use Rattle.h3_lines.specs.declared.run_error.AnswerError.TheVariants.{AtRow}
use Rattle.h3_lines.specs.declared.run_error.RowError.TheVariants.{Call}
use Rattle.h3_lines.specs.declared.run_error.RunError.TheVariants.{Error}
use Rattle.h3_command.specs.By.{all_or_error, lists_of, title_row}
use Rattle.h3_command.specs.ByValue.{AreByValue, part_of}
use Rattle.h3_rows.specs.Areas.{names_in, span_in}
use Rattle.h3_command.proofs.ListTexts.{lists_made, lists_refused}
use Rattle.h3_command.proofs.ValueRows.{error_written}
use Rattle.h3_command.proofs.by.write_divided.Goals as goal

pub write_lists-requires-clause-apart : goal.write_lists-requires-clause-apart
write_lists-requires-clause-apart g c =
    let size = c.divide_cells.ensures.apart.size_is in
    let by =
    subst (λ n. AreByValue c.args.pairs.now n c.divide_cells.new.slots c.divide_cells.new.parts)
    (sym size) c.divide_cells.ensures in
    let made = c.in-Ok.ensures.made c.args.pairs.now by in
    search (rules, made.apart, made.apart.size_is)

pub write_lists-requires-clause-ready : goal.write_lists-requires-clause-ready
write_lists-requires-clause-ready g c = λ n lt.
    let size = c.divide_cells.ensures.apart.size_is in
    let by =
    subst (λ n. AreByValue c.args.pairs.now n c.divide_cells.new.slots c.divide_cells.new.parts)
    (sym size) c.divide_cells.ensures in
    let made = c.in-Ok.ensures.made c.args.pairs.now by in
    made.set n (omega (arith, lt, made.apart.size_is))

pub returns-in-Ok : goal.returns-in-Ok
returns-in-Ok g c =
    let size = c.divide_cells.ensures.apart.size_is in
    let by =
    subst (λ n. AreByValue c.args.pairs.now n c.divide_cells.new.slots c.divide_cells.new.parts)
    (sym size) c.divide_cells.ensures in
    let made = c.in-Ok.ensures.made c.args.pairs.now by in
    let names = names_in c.args.names.now.bytes.items c.args.names.now.spans.items in
    let lists : ℕ → List _ =
    λ n. g.F.ListOfValue.listed c.args.function.now
    (part_of c.make_lists.new.cells (get_or c.make_lists.new.parts n (0, 0))) in
    let count : length names ≡ length c.make_lists.new.parts =
    length-map c.args.names.now.spans.items (span_in c.args.names.now.bytes.items)
    ∙ omega (arith, c.requires.size, size, made.apart.size_is) in
    let all = lists_made c.args.separator (g.F.ListOfValue.list_of c.args.function.now) names c.args.rows.now
    c.args.pairs.now (length c.make_lists.new.parts)
    lists (λ n ln. made.made n (omega (arith, ln, made.apart.size_is))) (length c.make_lists.new.parts) 0 (omega arith)
    in
    let header = title_row c.args.separator (option_map (λ t. t.now) c.args.title) in
    let is =
    ap (λ n. lists_of c.args.separator
    (g.F.ListOfValue.list_of c.args.function.now) names c.args.rows.now c.args.pairs.now
    (range_with_len 0 n)) count
    ∙ all in
    subst (λ a. Writes a c.write_lists.result
    (sink_use g.W.Sink.taken g.W.Sink.has_failed c.args.out.now c.write_lists.new.out)) (ap (all_or_error header)
    (sym is)) c.write_lists.ensures

pub bounds-rows-k : goal.bounds-rows-k
bounds-rows-k g c =
    let size = c.divide_cells.ensures.apart.size_is in
    let by =
    subst (λ n. AreByValue c.args.pairs.now n c.divide_cells.new.slots c.divide_cells.new.parts)
    (sym size) c.divide_cells.ensures in
    let first = c.in-Err.ensures.refused c.args.pairs.now by in
    omega (arith, first.within, size, c.requires.size, c.requires.rows)

pub offset_bounds-rows-k : goal.offset_bounds-rows-k
offset_bounds-rows-k g c =
    let size = c.divide_cells.ensures.apart.size_is in
    let by =
    subst (λ n. AreByValue c.args.pairs.now n c.divide_cells.new.slots c.divide_cells.new.parts)
    (sym size) c.divide_cells.ensures in
    let first = c.in-Err.ensures.refused c.args.pairs.now by in
    let there : c.in-Err.k < length c.args.rows.now =
    omega (arith, first.within, size, c.requires.size, c.requires.rows) in
    search (rules, there)

pub returns-in-Err : goal.returns-in-Err
returns-in-Err g c =
    let size = c.divide_cells.ensures.apart.size_is in
    let by =
    subst (λ n. AreByValue c.args.pairs.now n c.divide_cells.new.slots c.divide_cells.new.parts)
    (sym size) c.divide_cells.ensures in
    let first = c.in-Err.ensures.refused c.args.pairs.now by in
    let names = names_in c.args.names.now.bytes.items c.args.names.now.spans.items in
    let count : length names ≡ length c.divide_cells.new.parts =
    length-map c.args.names.now.spans.items (span_in c.args.names.now.bytes.items)
    ∙ omega (arith, c.requires.size, size) in
    let header = title_row c.args.separator (option_map (λ t. t.now) c.args.title) in
    let is = ap (λ n. lists_of c.args.separator (g.F.ListOfValue.list_of c.args.function.now) names c.args.rows.now
    c.args.pairs.now (range_with_len 0 n)) count
    ∙ lists_refused c.args.separator
    (g.F.ListOfValue.list_of c.args.function.now) names c.args.rows.now c.args.pairs.now
    (length c.divide_cells.new.parts)
    c.in-Err.k c.in-Err.error first (length c.divide_cells.new.parts) 0 (omega arith) (omega (arith, first.within)) in
    let out = sink_use g.W.Sink.taken g.W.Sink.has_failed c.args.out.now c.args.out.now in
    subst (λ a. Writes a (Err (Error (AtRow (get_or c.args.rows.now c.in-Err.k 0) (Call c.in-Err.error)))) out)
    (ap (all_or_error header) (sym is))
    (error_written (AtRow (get_or c.args.rows.now c.in-Err.k 0) (Call c.in-Err.error)) out (Keeps-refl _, refl))
