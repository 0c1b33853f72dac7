-- How the counts of areas answer a list, and that they add up.
use Rattle.std.proofs.Common.{◌≡◌, ℕ, zero, suc, ◌<◌, Bool, List, [], ◌∷◌, ◌++◌, All, Contains, get_or, length, map, replicate, sum, if◌then◌else◌, Option, None, Some, Result, option_map, unwrap_or, codes, string_bytes, sym, ap, ◌∙◌, refl, subst, arith, inl}
use Rattle.std.proofs.Math.Path.{fun_ext}
use Rattle.std.proofs.lemmas.List.{get_or-replicate, length-map, length-replicate}
use Rattle.std.proofs.lemmas.List.Elements.{All-contains}
use Rattle.std.proofs.lemmas.List.FromFn.{fill_by_all, get_or-map-range_with_len, length-map-range_with_len}
use Rattle.std.proofs.lemmas.List.Sums.{sum_by_push}
use Rattle.std.specs.List.{range_with_len}
use Rattle.h3_index.specs.Cell.{Address}
use Rattle.h3_lines.specs.Answer.{written}
use Rattle.h3_lines.specs.Reads.{SourceUse}
use Rattle.h3_lines.specs.Write.{SinkUse}
use Rattle.h3_lines.specs.declared.run_error.RunError.{RunError}
use Rattle.h3_regions.specs.AreaCounting.{AreAreaCounts, count_in_area, count_in_none}
use Rattle.h3_regions.specs.AreaLaws.{AlikeAreas, AreaCountsAddUp, ClashesAreFound}
use Rattle.h3_regions.specs.Areas.{AreAlike}
use Rattle.h3_requests.specs.declared.rows.AreaOptions.{AreaOptions}
use Rattle.h3_requests.specs.declared.rows.RowOptions.{RowOptions}
use Rattle.h3_rows.specs.Areas.{NumbersAreOfNames, area_cells, area_names, names_in, span_in}
use Rattle.h3_rows.specs.Named.{Entry}
use Rattle.h3_rows.specs.declared.areas.AreaTable.{AreaTable}
use Rattle.h3_command.specs.AreaCounts.{AreaCountsPrintedAddUp, area_count, area_counts, area_counts_answer, counts_table, has_header}
use Rattle.h3_command.specs.AreaTable.{EndsJudged, HoldsAreas}
use Rattle.h3_command.specs.Areas.{overlap_error}
use Rattle.h3_command.specs.AreaTally.{named_counts}
use Rattle.h3_command.specs.Rows.{list_form}
use Rattle.h3_lines.specs.List.{itself}
use Rattle.h3_command.specs.Run.{EndsNumberedList}
use Rattle.h3_command.proofs.Joining.{not_refused}

-- no cell is counted at first
no_sum : (n : ℕ) → sum (replicate {A = ℕ} n 0) ≡ 0
no_sum zero = refl
no_sum (suc n) = no_sum n

pub nothing_counted : (areas : List (Address × ℕ)) (n : ℕ) → AreAreaCounts areas [] (replicate {A = ℕ} n 0) 0
nothing_counted areas n = record {
  each =
      fill_by_all (count_in_area areas []) (replicate {A = ℕ} n 0) (length (replicate {A = ℕ} n 0)) 0 refl
      (λ k lt. get_or-replicate n k 0 0 (omega (arith, lt, length-replicate {A = ℕ} n 0)));
  others = refl;
  all = omega (arith, no_sum n);
}

-- two functions of numbers that agree below a size
pub alike_below : {X : Type 0} (f g : ℕ → X) (n : ℕ) → ((k : ℕ) → k < n → f k ≡ g k)
    → map f (range_with_len 0 n) ≡ map g (range_with_len 0 n)
alike_below f g n same =
    fill_by_all g (map f (range_with_len 0 n)) n (f 0) (length-map-range_with_len f 0 n)
    (λ k lt. get_or-map-range_with_len f 0 n k k (f 0) lt (omega arith) ∙ same k lt)

-- the counts that were made are those of the areas
pub counts_named : (names : List (List ℕ)) (none : List ℕ) (areas : List (Address × ℕ)) (cells : List Address)
    (counts : List ℕ) (others : ℕ)
    → length counts ≡ length names → AreAreaCounts areas cells counts others
    → named_counts names counts (length counts) ++ (none, others) ∷ [] ≡ area_counts none names areas cells
counts_named names none areas cells counts others long h =
    let f : ℕ → List ℕ × ℕ = λ k. (get_or names k [], get_or counts k 0) in
    let g : ℕ → List ℕ × ℕ = area_count names areas cells in
    let same : (k : ℕ) → k < length counts → f k ≡ g k =
    λ k lt. ap (λ n. (get_or names k [], n)) (ap (λ l. get_or l k 0) h.each
    ∙ get_or-map-range_with_len (count_in_area areas cells) 0 (length counts) k k 0 lt (omega arith)) in
    ap (λ l. l ++ (none, others) ∷ []) (alike_below f g (length counts) same)
    ∙ ap (λ n. map g (range_with_len 0 n) ++ (none, others) ∷ []) long
    ∙ ap (λ n. map g (range_with_len 0 (length names)) ++ (none, n) ∷ []) h.others

-- ---- areas that are alike

alike_counts : AlikeAreas
    → (none : List ℕ) (names : List (List ℕ)) (areas others : List (Address × ℕ)) (cells : List Address)
    → AreAlike areas others
    → area_counts none names areas cells ≡ area_counts none names others cells
alike_counts law none names areas others cells alike =
    let same : (k : ℕ) → k < length names → area_count names areas cells k ≡ area_count names others cells k =
    λ k lt. ap (λ n. (get_or names k [], n)) (law.counted areas others alike cells k) in
    ap (λ l. l ++ (none, count_in_none areas cells) ∷ [])
    (alike_below (area_count names areas cells) (area_count names others cells) (length names) same)
    ∙ ap (λ n. map (area_count names others cells) (range_with_len 0 (length names)) ++ (none, n) ∷ [])
    (law.none areas others alike cells)

-- each cell has the number of one of the names
pub numbered_below : NumbersAreOfNames → (quotes : Bool) (entries : List Entry) (table : AreaTable)
    → HoldsAreas quotes entries table
    → All (λ p. p.1 < length table.names.spans.items) table.cells.items
numbered_below law quotes entries table holds =
    let spans = table.names.spans.items in
    let size : length (area_names quotes entries) ≡ length spans =
    sym (ap length holds.named) ∙ length-map spans (span_in table.names.bytes.items) in
    subst (λ l. All (λ p. p.1 < length spans) l) (sym holds.cells)
    (subst (λ n. All (λ p. p.1 < n) (area_cells quotes entries)) size (law quotes entries))

-- ---- how the list is answered

pub ends_counted : AlikeAreas
    → (options : AreaOptions) (list : Option RowOptions) (entries : List Entry) (table : AreaTable)
    (areas : List (Address × ℕ)) (title : List ℕ)
    (input : SourceUse) (ending : Result (Unit {0}) RunError) (out : SinkUse)
    → HoldsAreas options.table.rows.quotes entries table → overlap_error options.overlapping table.cells.items ≡ None
    → AreAlike areas table.cells.items → title ≡ unwrap_or (option_map (λ t. t.items) table.title) (codes "zone")
    → EndsNumberedList itself (list_form list)
    (λ cells. written (counts_table options.table.rows.separator (if has_header
    options list then Some title else None) (area_counts (string_bytes options.none)
    (names_in table.names.bytes.items table.names.spans.items) areas cells))) input ending out
    → EndsJudged (overlap_error options.overlapping (area_cells options.table.rows.quotes entries))
    (EndsNumberedList itself (list_form list) (area_counts_answer options list entries) input ending out) input ending
    out
ends_counted law options list entries table areas title input ending out holds free alike titled ends =
    let none = string_bytes options.none in
    let separator = options.table.rows.separator in
    let quotes = options.table.rows.quotes in
    let named = names_in table.names.bytes.items table.names.spans.items in
    let header : List ℕ → Option (List ℕ) = λ t. if has_header options list then Some t else None in
    let title_is = titled ∙ ap (λ t. unwrap_or t (codes "zone")) holds.title in
    let at : (cells : List Address) → written
    (counts_table separator (header title) (area_counts none named areas cells))
    ≡ area_counts_answer options list entries cells =
    λ cells. ap (λ r. written (counts_table separator (header title) r))
    (alike_counts law none named areas table.cells.items cells alike
    ∙ ap (λ l. area_counts none named l cells) holds.cells
    ∙ ap (λ l. area_counts none l (area_cells quotes entries) cells) holds.named)
    ∙ ap (λ t. written (counts_table separator (header t)
    (area_counts none (area_names quotes entries) (area_cells quotes entries) cells))) title_is in
    inl (
      ap (overlap_error options.overlapping) (sym holds.cells) ∙ free,
      subst (λ about. EndsNumberedList itself (list_form list) about input ending out) (fun_ext at) ends,
    )

-- ---- what is printed adds up

numbers : (names : List (List ℕ)) (none : List ℕ) (areas : List (Address × ℕ)) (cells : List Address) (others : ℕ)
    (ks : List ℕ)
    → map (λ row. row.1) (map (area_count names areas cells) ks ++ (none, others) ∷ [])
    ≡ map (count_in_area areas cells) ks ++ others ∷ []
numbers names none areas cells others [] = refl
numbers names none areas cells others (k ∷ ks) =
    ap (λ l. count_in_area areas cells k ∷ l) (numbers names none areas cells others ks)

pub printed_area_counts : AreaCountsAddUp → ClashesAreFound → NumbersAreOfNames → AreaCountsPrintedAddUp
printed_area_counts law clashes below quotes none entries cells free =
    let names = area_names quotes entries in
    let areas = area_cells quotes entries in
    let size = length names in
    let others = count_in_none areas cells in
    let small : (c : Address) (n : ℕ) → Contains areas (c, n) → n < size =
    λ c n inside. All-contains (λ p. p.1 < size) areas (c, n) (below quotes entries) inside in
    ap sum (numbers names none areas cells others (range_with_len 0 size))
    ∙ sum_by_push (λ n. n) (map (count_in_area areas cells) (range_with_len 0 size)) others
    ∙ law areas cells size (not_refused clashes areas free) small
