use Rattle.std.proofs.Common.{◌≡◌, ◌∙◌, ℕ, List, Ok, Result, ap, arith, get_or, inl, length, option_map, rules, subst, sym}
use Rattle.std.proofs.lemmas.List.{length-map}
use Rattle.std.specs.List.{range_with_len}
use Rattle.h3_index.specs.Cell.{Address}
use Rattle.h3_index.specs.declared.error.H3Error.{H3Error}
use Rattle.h3_lines.specs.Write.{Writes, sink_use}
use Rattle.h3_rows.specs.Areas.{names_in, span_in}
use Rattle.h3_command.specs.By.{all_or_error, lists_of, title_row}
use Rattle.h3_command.specs.ByValue.{part_of}
use Rattle.h3_command.specs.Combination.{combined}
use Rattle.h3_command.proofs.ListTexts.{lists_made}
use Rattle.h3_command.proofs.by_region.write_divided.Goals as goal

pub write_lists-requires-clause-apart : goal.write_lists-requires-clause-apart
write_lists-requires-clause-apart g c =
    search (rules, c.in_ok-made.ensures.cut.apart, c.in_ok-made.ensures.cut.apart.size_is, c.deref.ensures.value)

pub returns : goal.returns
returns g c = λ listed rows region.
    let size = c.divide_cells.ensures.apart.size_is in
    let cut = c.in_ok-made.ensures.cut in
    let kind = c.args.kind in
    let pairs = c.args.pairs.now in
    let parts = c.cut_lists.new.parts in
    let items = c.in_ok-made.made.items in
    let names = names_in c.args.names.now.bytes.items c.args.names.now.spans.items in
    let answers : List Address → Result (List Address) H3Error = λ cells. Ok (combined kind listed cells) in
    let lists : ℕ → List Address = λ n. part_of items (get_or parts n (0, 0)) in
    let count : length names ≡ length parts =
    length-map c.args.names.now.spans.items (span_in c.args.names.now.bytes.items)
    ∙ omega (arith, c.requires.size, size, cut.apart.size_is) in
    let all = lists_made c.args.separator answers names rows pairs (length parts) lists (λ n ln.
    ap Ok (sym (cut.cut n (omega (arith, ln, cut.apart.size_is)) listed region
    ∙ ap (combined kind listed) (c.divide_cells.ensures.own n (omega (arith, ln, cut.apart.size_is, size))))))
    (length parts) 0 (omega arith) in
    let header = title_row c.args.separator (option_map (λ t. t.now) c.args.title) in
    let is = ap (λ n. lists_of c.args.separator answers names rows pairs (range_with_len 0 n)) count ∙ all in
    let wrote = rw c.deref.ensures.value at c.write_lists.ensures in
    inl (subst (λ a. Writes a c.write_lists.result
    (sink_use g.W.Sink.taken g.W.Sink.has_failed c.args.out.now c.write_lists.new.out)) (ap (all_or_error header)
    (sym is)) wrote)
