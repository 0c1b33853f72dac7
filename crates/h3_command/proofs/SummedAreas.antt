-- Rows that are added up by areas, and the answer about them.
use Rattle.std.proofs.Common.{◌≡◌, ◌<◌, ◌∙◌, ℕ, Bool, true, false, List, [], ◌∷◌, ◌++◌, All, Option, None, Some, Result, ap, get_or, length, map, not, option_map, refl, string_bytes, codes, subst, sym, unwrap_or, inl}
use Rattle.std.proofs.Math.Path.{fun_ext}
use Rattle.std.specs.Prelude.{IsPermutation, ℤ, pos}
use Rattle.std.specs.List.{count_by, range_with_len}
use Rattle.std.proofs.lemmas.List.{get_or-map}
use Rattle.h3_index.specs.Cell.{Address}
use Rattle.h3_lines.specs.Answer.{written}
use Rattle.h3_lines.specs.Reads.{SourceUse}
use Rattle.h3_lines.specs.Write.{SinkUse}
use Rattle.h3_lines.specs.declared.run_error.RunError.{RunError}
use Rattle.h3_numbers.specs.Sum.{sum_count, sum_units}
use Rattle.h3_numbers.specs.declared.sum.Sum.{Sum}
use Rattle.h3_regions.specs.AreaLaws.{AreasAreTested, AreasInAnyOrder}
use Rattle.h3_regions.specs.Areas.{AreAlike, lies_in}
use Rattle.h3_regions.specs.AreaCounting.{count_in_area, count_in_none}
use Rattle.h3_requests.specs.declared.rows.AreaOptions.{AreaOptions}
use Rattle.h3_requests.specs.declared.rows.RowOptions.{RowOptions}
use Rattle.h3_rows.specs.Areas.{area_cells, area_names, names_in}
use Rattle.h3_rows.specs.Named.{Entry, Table}
use Rattle.h3_rows.specs.declared.areas.AreaTable.{AreaTable}
use Rattle.h3_set.specs.Coverage.{is_covered}
use Rattle.h3_command.specs.AreaCounts.{has_header}
use Rattle.h3_command.specs.AreaSums.{Amount, cells_in, is_outside, sum_where}
use Rattle.h3_command.specs.AreaTable.{EndsJudged, HoldsAreas}
use Rattle.h3_command.specs.Areas.{overlap_error}
use Rattle.h3_command.specs.Run.{EndsEntries}
use Rattle.h3_command.specs.SumAnswers.{amounts_among, area_sum, area_sums, area_sums_answer, none_sum, sum_titles}
use Rattle.h3_command.specs.SumRows.{named_row, named_rows, row_of, value_of, values_of}
use Rattle.h3_command.specs.SumTables.{sums_table}
use Rattle.h3_command.specs.SumTally.{AreAreaSums}
use Rattle.h3_command.proofs.AreasCounted.{alike_below}
use Rattle.h3_command.proofs.Summing.{covers_in, lies_in_some}

-- ---- at first

-- no number is added at first
pub nothing_summed : (areas : List (Address × ℕ)) (sums : List Sum) (other : Sum) → All (λ s. sum_count s ≡ 0) sums
    → All (λ s. sum_units s ≡ pos 0) sums
    → sum_count other ≡ 0 → sum_units other ≡ pos 0 → AreAreaSums areas [] sums other
nothing_summed areas sums other counts units count unit = record {
  each = λ k d lt. record { count = counts k d lt; units = units k d lt };
  others = record { count = count; units = unit };
}

-- ---- the rows

-- the sums that were made are those of the areas
pub sums_named : (names : List (List ℕ)) (none : List ℕ) (areas : List (Address × ℕ)) (amounts : List Amount)
    (sums : List Sum) (others : Sum)
    → length sums ≡ length names → AreAreaSums areas amounts sums others
    → named_rows names (values_of sums) (length sums) ++ row_of none others ∷ [] ≡ area_sums none names areas amounts
sums_named names none areas amounts sums others long h =
    let f = named_row names (values_of sums) in
    let g = area_sum names areas amounts in
    let same : (k : ℕ) → k < length sums → f k ≡ g k =
    λ k lt.
    let each = h.each k others lt in
    let value : get_or (values_of sums) k (0, pos 0) ≡ value_of (get_or sums k others) =
    get_or-map value_of sums k others (0, pos 0) lt in
    ap (λ (v : ℕ × ℤ). record { name = get_or names k []; count = v.0; units = v.1 }) value
    ∙ ap (λ n. record { name = get_or names k []; count = n; units = sum_units (get_or sums k others) }) each.count
    ∙ ap (λ u. record { name = get_or names k []; count = count_in_area areas (cells_in amounts) k; units = u })
    each.units in
    let last : row_of none others ≡ none_sum none areas amounts =
    ap (λ n. record { name = none; count = n; units = sum_units others }) h.others.count
    ∙ ap (λ u. record { name = none; count = count_in_none areas (cells_in amounts); units = u }) h.others.units in
    ap (λ l. l ++ row_of none others ∷ []) (alike_below f g (length sums) same)
    ∙ ap (λ n. map g (range_with_len 0 n) ++ row_of none others ∷ []) long
    ∙ ap (λ r. map g (range_with_len 0 (length names)) ++ r ∷ []) last

-- ---- areas that are alike

-- two tests with the same answer
same_tests : (a b : Bool) → (a ≡ true → b ≡ true) → (b ≡ true → a ≡ true) → a ≡ b
same_tests true b f g = sym (f refl)
same_tests false true f g = g refl
same_tests false false f g = refl

module _ (tested : AreasAreTested) (areas others : List (Address × ℕ)) (alike : AreAlike areas others) where
  same_in : (x : Address) (n : ℕ) → lies_in areas x n ≡ lies_in others x n
  same_in x n =
      same_tests (lies_in areas x n) (lies_in others x n)
      (λ t. (tested others x n).1 ((alike x n).0 ((tested areas x n).0 t)))
      (λ t. (tested areas x n).1 ((alike x n).1 ((tested others x n).0 t)))

  same_covered : (x : Address) → is_covered (map (λ p. p.0) areas) x ≡ is_covered (map (λ p. p.0) others) x
  same_covered x =
      same_tests (is_covered (map (λ p. p.0) areas) x) (is_covered (map (λ p. p.0) others) x)
      (λ t. let some = lies_in_some areas x t in covers_in others x some.0 (sym (same_in x some.0) ∙ some.1))
      (λ t. let some = lies_in_some others x t in covers_in areas x some.0 (same_in x some.0 ∙ some.1))

  pub alike_sums : (none : List ℕ) (names : List (List ℕ)) (amounts : List Amount)
      → area_sums none names areas amounts ≡ area_sums none names others amounts
  alike_sums none names amounts =
      let test : (n : ℕ) → (λ x. lies_in areas x n) ≡ (λ x. lies_in others x n) = λ n. fun_ext (λ x. same_in x n) in
      let out : is_outside areas ≡ is_outside others = fun_ext (λ x. ap not (same_covered x)) in
      let row : (k : ℕ) → k < length names → area_sum names areas amounts k ≡ area_sum names others amounts k =
      λ k lt. ap (λ (t : Address → Bool). record {
        name = get_or names k [];
        count =
            count_by t (cells_in amounts);
        units = sum_where t amounts;
      }) (test k) in
      let last : none_sum none areas amounts ≡ none_sum none others amounts =
      ap (λ (t : Address → Bool). record {
        name = none;
        count = count_by t (cells_in amounts);
        units =
            sum_where t amounts;
      }) out in
      ap (λ l. l ++ none_sum none areas amounts ∷ [])
      (alike_below (area_sum names areas amounts) (area_sum names others amounts) (length names) row)
      ∙ ap (λ r. map (area_sum names others amounts) (range_with_len 0 (length names)) ++ r ∷ []) last

-- areas in another order
pub permuted_alike : AreasInAnyOrder → (areas others : List (Address × ℕ)) → IsPermutation areas others
    → AreAlike others areas
permuted_alike law areas others same x n = let h = law.lies areas others same x n in (h.1, h.0)

-- ---- how the list is answered

pub ends_summed : AreasAreTested
    → (table : Table) (options : AreaOptions) (list : RowOptions) (zones : List Entry) (held : AreaTable)
    (areas : List (Address × ℕ)) (title : List ℕ)
    (input : SourceUse) (ending : Result (Unit {0}) RunError) (out : SinkUse)
    → HoldsAreas options.table.rows.quotes zones held → overlap_error options.overlapping held.cells.items ≡ None
    → AreAlike areas held.cells.items → title ≡ unwrap_or (option_map (λ t. t.items) held.title) (codes "zone")
    → EndsEntries table (λ rows. written (sums_table options.table.rows.separator (sum_titles
    (has_header options (Some list)) title rows) (area_sums (string_bytes options.none)
    (names_in held.names.bytes.items held.names.spans.items) areas
    (amounts_among list.quotes rows)))) input ending out
    → EndsJudged (overlap_error options.overlapping (area_cells options.table.rows.quotes zones))
    (EndsEntries table (area_sums_answer options list zones) input ending out) input ending out
ends_summed tested table options list zones held areas title input ending out holds free alike titled ends =
    let none = string_bytes options.none in
    let separator = options.table.rows.separator in
    let quotes = options.table.rows.quotes in
    let named = names_in held.names.bytes.items held.names.spans.items in
    let titles : List ℕ → List Entry → Option (List ℕ × List ℕ) =
    λ t rows. sum_titles (has_header options (Some list)) t rows in
    let title_is = titled ∙ ap (λ t. unwrap_or t (codes "zone")) holds.title in
    let at : (rows : List Entry) → written (sums_table separator (titles title rows)
    (area_sums none named areas (amounts_among list.quotes rows))) ≡ area_sums_answer options list zones rows =
    λ rows.
    let amounts = amounts_among list.quotes rows in
    ap (λ r. written (sums_table separator (titles title rows) r))
    (alike_sums tested areas held.cells.items alike none named amounts
    ∙ ap (λ l. area_sums none named l amounts) holds.cells
    ∙ ap (λ l. area_sums none l (area_cells quotes zones) amounts) holds.named)
    ∙ ap (λ t. written (sums_table separator (titles t rows)
    (area_sums none (area_names quotes zones) (area_cells quotes zones) amounts))) title_is in
    inl (
      ap (overlap_error options.overlapping) (sym holds.cells) ∙ free,
      subst (λ about. EndsEntries table about input ending out) (fun_ext at) ends,
    )
