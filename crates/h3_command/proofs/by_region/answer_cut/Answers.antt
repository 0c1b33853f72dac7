use Rattle.std.proofs.Common.{◌≡◌, ◌<◌, ◌∙◌, ℕ, List, ap, arith, get_or, inl, length, subst, sym}
use Rattle.std.proofs.lemmas.List.{length-map}
use Rattle.h3_index.specs.Cell.{Address}
use Rattle.h3_rows.specs.Areas.{area_cells, area_names, first_rows, span_in}
use Rattle.h3_command.proofs.by_region.answer_cut.Goals as goal

pub write_cut-requires : goal.write_cut-requires
write_cut-requires g c =
    let (entries, read, names, cells, rows, title) = c.in_ok-table.ensures.areas in
    let quotes = c.args.rows.now.quotes in
    let spans = c.in_ok-table.table.names.spans.items in
    let all = c.areas_divide_cells.ensures.numbers quotes entries in
    let same : c.deref.result.now ≡ area_cells quotes entries = c.deref.ensures.value ∙ cells in
    let size : length spans ≡ length (area_names quotes entries) =
    sym (length-map spans (span_in c.in_ok-table.table.names.bytes.items)) ∙ ap length names in
    subst (λ (l : List (Address × ℕ)). (k : ℕ) (d : Address × ℕ) → k < length l → (get_or l k d).1 < length spans)
    (sym same)
    (λ k d lt. omega (arith, all k d lt, size))

pub returns : goal.returns
returns g c = λ listed region.
    let (entries, read, names, cells, rows, title) = c.in_ok-table.ensures.areas in
    let wrote = c.write_cut.ensures listed (first_rows c.args.rows.now.quotes entries) region in
    let all = rw (c.title_if-title.ensures, title, c.deref.ensures.value, names, cells) at wrote in
    inl (entries, (c.in_ok-table.ensures.sound, read), all)
