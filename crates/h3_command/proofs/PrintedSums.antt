-- What is printed of the counts and sums of areas adds up.
use Rattle.std.proofs.Common.{◌≡◌, ℕ, ◌<◌, List, [], ◌∷◌, ◌++◌, Contains, length, map, sum, ap, ◌∙◌, refl}
use Rattle.std.specs.Prelude.{◌+ℤ◌}
use Rattle.std.specs.List.{range_with_len}
use Rattle.std.proofs.Math.IntN.{+ℤ_idr}
use Rattle.std.proofs.lemmas.List.{length-map}
use Rattle.std.proofs.lemmas.List.Elements.{All-contains}
use Rattle.std.proofs.lemmas.List.Sums.{sum_by_push}
use Rattle.h3_index.specs.Cell.{Address}
use Rattle.h3_numbers.specs.Laws.{TotalsInParts}
use Rattle.h3_numbers.specs.Sum.{total}
use Rattle.h3_regions.specs.AreaCounting.{count_in_area, count_in_none}
use Rattle.h3_regions.specs.AreaLaws.{AreaCountsAddUp, AreasAreTested, ClashesAreFound, OneAreaAtMost}
use Rattle.h3_rows.specs.Areas.{NumbersAreOfNames, area_cells, area_names}
use Rattle.h3_command.specs.AreaSums.{Amount, cells_in, sum_in_area, sum_in_none}
use Rattle.h3_command.specs.SumAnswers.{AreaSumsPrintedAddUp, area_sum, none_sum}
use Rattle.h3_command.specs.SumTables.{SumRow}
use Rattle.h3_command.proofs.AddedUp.{sums_add_up}
use Rattle.h3_command.proofs.Joining.{not_refused}

module _ (names : List (List ℕ)) (none : List ℕ) (areas : List (Address × ℕ)) (amounts : List Amount) where
  counts : (ks : List ℕ)
      → map (λ (r : SumRow). r.count) (map (area_sum names areas amounts) ks ++ none_sum none areas amounts ∷ [])
      ≡ map (count_in_area areas (cells_in amounts)) ks ++ count_in_none areas (cells_in amounts) ∷ []
  counts [] = refl
  counts (k ∷ ks) = ap (λ l. count_in_area areas (cells_in amounts) k ∷ l) (counts ks)

  units : (ks : List ℕ)
      → map (λ (r : SumRow). r.units) (map (area_sum names areas amounts) ks ++ none_sum none areas amounts ∷ [])
      ≡ map (sum_in_area areas amounts) ks ++ sum_in_none areas amounts ∷ []
  units [] = refl
  units (k ∷ ks) = ap (λ l. sum_in_area areas amounts k ∷ l) (units ks)

pub printed_sums : AreaCountsAddUp → ClashesAreFound → NumbersAreOfNames → AreasAreTested → OneAreaAtMost
    → TotalsInParts → AreaSumsPrintedAddUp
printed_sums add_up clashes below tested one parts = record {
  counts = λ quotes none zones amounts free. (
      let names = area_names quotes zones in
      let areas = area_cells quotes zones in
      let size = length names in
      let small : (c : Address) (n : ℕ) → Contains areas (c, n) → n < size =
      λ c n inside. All-contains (λ p. p.1 < size) areas (c, n) (below quotes zones) inside in
      ap sum (counts names none areas amounts (range_with_len 0 size))
      ∙ sum_by_push (λ n. n) (map (count_in_area areas (cells_in amounts)) (range_with_len 0 size))
      (count_in_none areas (cells_in amounts))
      ∙ add_up areas (cells_in amounts) size (not_refused clashes areas free) small
      ∙ length-map amounts (λ (a : Amount). a.0));
  sums = λ quotes none zones amounts free. (
      let names = area_names quotes zones in
      let areas = area_cells quotes zones in
      let size = length names in
      let small : (c : Address) (n : ℕ) → Contains areas (c, n) → n < size =
      λ c n inside. All-contains (λ p. p.1 < size) areas (c, n) (below quotes zones) inside in
      let each = map (sum_in_area areas amounts) (range_with_len 0 size) in
      ap total (units names none areas amounts (range_with_len 0 size))
      ∙ parts each (sum_in_none areas amounts ∷ [])
      ∙ ap (λ u. total each +ℤ u) (+ℤ_idr (sum_in_none areas amounts))
      ∙ sums_add_up tested one areas amounts size (not_refused clashes areas free) small);
}
