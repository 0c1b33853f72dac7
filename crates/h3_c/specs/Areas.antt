-- Areas of which no two overlap, given by indexes and numbers, and the number of the area of a cell.
use Rattle.std.specs.Prelude.{ℕ, ◌≡◌, ◌-◌, ◌^◌, ◌≤◌, nat_le, List, [], ◌∷◌, map, length, take, zip, Some, Result, Ok, if◌then◌else◌}
use Rattle.h3_index.specs.Cell.{Address}
use Rattle.h3_index.specs.declared.error.H3Error.{H3Error}
use Rattle.h3_functions.specs.Hierarchy.{unless}
use Rattle.h3_functions.specs.Inspection.{cell_from, for_value}
use Rattle.h3_set.specs.Coverage.{is_ancestor}
use Rattle.h3_regions.specs.Areas.{AreAlike, AreChosen, LiesIn}
use Rattle.h3_regions.specs.Refusals.{areas_refusal}
use Rattle.h3_regions.specs.Zones.{IsZones}
use Rattle.h3_c.specs.Column.{column_code, column_over, place_over}
use Rattle.h3_c.specs.Lists.{indexes, laid_over}
use Rattle.h3_c.specs.Outcome.{code_of}
use Rattle.h3_c.specs.Sets.{cells_in, for_cells}
use Rattle.h3_c.specs.Zones.{if_room}

-- ---- numbers beside zones

-- beside zones numbers x: the number beside the first zone that is x or an ancestor of it; 2^64 - 1, which is -1 in C,
-- if there is none
abbrev pub beside : List Address → List ℕ → Address → ℕ
beside [] numbers x = 2 ^ 64 - 1
beside (z ∷ zones) [] x = 2 ^ 64 - 1
beside (z ∷ zones) (n ∷ numbers) x = if is_ancestor z x then n else beside zones numbers x

-- the same of the cell with an index
abbrev pub cell_to_place : List Address → List ℕ → ℕ → Result ℕ H3Error
cell_to_place zones places h = for_value (λ c. Ok (beside zones places c)) (cell_from h)

-- ---- of a column; where there are fewer numbers than zones, or fewer slots than indexes, nothing is written

-- the number beside the zone of each cell
abbrev pub cells_to_places : List Address → List ℕ → List ℕ → List (Result ℕ H3Error)
cells_to_places zones places hs = map (λ h. cell_to_place zones places h) hs

-- 14 where there are fewer numbers than zones, or less room than indexes; else the number of the first error, or 0
abbrev pub places_code : List Address → List ℕ → List ℕ → ℕ → ℕ
places_code zones places hs room =
    if_room zones (length places) (column_code (cells_to_places zones places hs) room) 14

-- the numbers beside the zones, and 2^64 - 1 in the place of errors, laid over what was there; or what was there, where
-- `places_code` is 14
abbrev pub places_over : List Address → List ℕ → List ℕ → List ℕ → List ℕ
places_over zones places hs old =
    if_room zones (length places) (column_over (2 ^ 64 - 1) (cells_to_places zones places hs) old) old

-- the place of the first error, or how many indexes there are; or what was there, where `places_code` is 14
abbrev pub places_place : List Address → List ℕ → List ℕ → ℕ → ℕ → ℕ
places_place zones places hs room old =
    if_room zones (length places) (place_over (cells_to_places zones places hs) room old) old

-- ---- areas, prepared

-- the cells with these indexes, if no two of the areas overlap
abbrev pub areas_from : List ℕ → List ℕ → Result (List Address) H3Error
areas_from hs numbers = for_cells (λ cells. unless (areas_refusal (zip cells numbers)) cells) hs

-- 14, H3's number for too little room, or 0, or the number of the error
abbrev pub areas_code : List ℕ → List ℕ → ℕ → ℕ
areas_code hs numbers room = if nat_le (length hs) room then code_of (areas_from hs numbers) else 14

-- the areas of pairs were put as zones, with the number of the area beside each: some of the pairs, of whose cells no
-- two overlap, by which each cell lies in the same areas. So left out are a cell below another of the same area, and
-- all but one of the same cells of an area. What is found beside the zone of a cell is the number of the area that it
-- lies in, or -1
pub record AreAreasPut (pairs : List (Address × ℕ)) (old new old_numbers new_numbers : List ℕ) (n : ℕ) : Type 0 where
  pub areas : List (Address × ℕ)
  pub chosen : AreChosen areas pairs
  pub alike : AreAlike areas pairs
  pub in_order : IsZones (map (λ p. p.0) areas)
  pub fewer : n ≤ length pairs
  pub size : n ≡ length areas
  pub written : new ≡ laid_over (indexes (map (λ p. p.0) areas)) old
  pub numbers_written : new_numbers ≡ laid_over (map (λ p. p.1) areas) old_numbers
  pub found : (x : Address) (n : ℕ) → LiesIn pairs x n
      → beside (map (λ p. p.0) areas) (map (λ p. p.1) areas) x ≡ n
  pub nowhere : (x : Address) → ((n : ℕ) → ¬ LiesIn pairs x n)
      → beside (map (λ p. p.0) areas) (map (λ p. p.1) areas) x ≡ 2 ^ 64 - 1

-- the same of the cells with these indexes, each of the area with the number at its place; the zones and the numbers
-- are read where they were put
pub record AreAreasOver (hs numbers old new old_numbers new_numbers : List ℕ) (count : ℕ) : Type 0 where
  pub given : List Address
  pub read : cells_in hs ≡ Some given
  pub put : AreAreasPut (zip given numbers) old new old_numbers new_numbers count
  pub read_again : cells_in (take count new) ≡ Some (map (λ p. p.0) (put.areas))
  pub numbers_again : take count new_numbers ≡ map (λ p. p.1) (put.areas)
