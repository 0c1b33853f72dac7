-- Zones that are given by their indexes, the zones of cells, and how many cells each has.
use Rattle.std.specs.Prelude.{ℕ, ◌≡◌, ◌⊎◌, nat_le, List, map, length, take, IsPermutation, Bool, Option, None, Some, Result, Ok, if◌then◌else◌}
use Rattle.std.specs.Option.{option_map_or}
use Rattle.h3_index.specs.Cell.{Address, number_of}
use Rattle.h3_index.specs.declared.error.H3Error.{H3Error}
use Rattle.h3_functions.specs.Hierarchy.{unless}
use Rattle.h3_functions.specs.Inspection.{cell_from, for_value}
use Rattle.h3_set.specs.Coverage.{is_covered, IsApart}
use Rattle.h3_set.specs.Refusals.{compaction_refusal}
use Rattle.h3_regions.specs.Counting.{count_in, count_outside}
use Rattle.h3_regions.specs.Overlap.{IsFirstOverlap}
use Rattle.h3_regions.specs.Zones.{IsZones, zone_of}
use Rattle.h3_c.specs.Column.{first_code, first_place}
use Rattle.h3_c.specs.Lists.{indexes, laid_over}
use Rattle.h3_c.specs.Outcome.{code_of}
use Rattle.h3_c.specs.Sets.{cells_in, for_cells}
use Rattle.h3_c.specs.declared.zones.Lookup.{Lookup}
use Rattle.h3_c.specs.declared.zones.Lookup.TheVariants.{Near, InTable}

-- ---- zones, prepared

-- the cells with these indexes, if no two overlap
abbrev pub zones_from : List ℕ → Result (List Address) H3Error
zones_from hs = for_cells (λ cells. unless (compaction_refusal cells) cells) hs

-- 14, H3's number for too little room, or 0, or the number of the error
abbrev pub zones_code : List ℕ → ℕ → ℕ
zones_code hs room = if nat_le (length hs) room then code_of (zones_from hs) else 14

-- the cells with these indexes were put as zones over what was there: the same cells, in the order in which zones are
-- looked up, and read where they were put
pub record AreZonesOver (hs old new : List ℕ) : Type 0 where
  pub given : List Address
  pub zones : List Address
  pub read : cells_in hs ≡ Some given
  pub same : IsPermutation given zones
  pub in_order : IsZones zones
  pub written : new ≡ laid_over (indexes zones) old
  pub read_again : cells_in (take (length hs) new) ≡ Some zones

-- the zones in which cells are looked up; private contracts alone cite it
abbrev pub zones_in : Lookup → List Address
zones_in (Near zones) = zones
zones_in (InTable zones) = zones

-- ---- the zones of cells

-- the index of a zone, or H3's null where there is none
abbrev pub zone_index : Option Address → ℕ
zone_index None = 0
zone_index (Some zone) = number_of zone

-- the index of the zone of the cell with an index
abbrev pub cell_to_zone : List Address → ℕ → Result ℕ H3Error
cell_to_zone zones h = for_value (λ c. Ok (zone_index (zone_of zones c))) (cell_from h)

-- whether the zones cover the cell with an index
abbrev pub is_covered_cell : List Address → ℕ → Result Bool H3Error
is_covered_cell zones h = for_value (λ c. Ok (is_covered zones c)) (cell_from h)

-- ---- the counts of zones

-- the cells with these indexes, each or its error
abbrev pub judged : List ℕ → List (Result Address H3Error)
judged hs = map cell_from hs

-- what comes of the cells with these indexes, or what stands where an index is no cell's
abbrev pub if_cells : {A : Type 0} → List ℕ → (List Address → A) → A → A
if_cells hs comes stands = option_map_or comes (cells_in hs) stands

-- what comes where there is room for a count of each zone, or what stands where there is not
abbrev pub if_room : {A : Type 0} → List Address → ℕ → A → A → A
if_room zones room comes stands = if nat_le (length zones) room then comes else stands

-- 14, or the number of the first error, or 0
abbrev pub counts_code : List Address → List ℕ → ℕ → ℕ
counts_code zones hs room = if_room zones room (first_code (judged hs)) 14

-- where there is room: the place of the first error, or how many indexes there are
abbrev pub counts_place : List Address → List ℕ → ℕ → ℕ → ℕ
counts_place zones hs room old = if_room zones room (first_place (judged hs)) old

-- where there is room and each index is a cell's: how many of the cells have each zone, over what was there
abbrev pub counts_over : List Address → List ℕ → List ℕ → List ℕ
counts_over zones hs old =
    if_room zones (length old) (if_cells hs (λ cells. laid_over (map (λ z. count_in z cells) zones) old) old) old

-- there: how many have none
abbrev pub others_over : List Address → List ℕ → ℕ → ℕ → ℕ
others_over zones hs room old =
    if_room zones room (if_cells hs (λ cells. count_outside zones cells) old) old

-- ---- cells that overlap

-- FindsOverlap cells j i: j is the first place whose cell overlaps an earlier one, and i the first place whose cell it
-- overlaps; where no two overlap both are the length of the list
abbrev pub FindsOverlap : List Address → ℕ → ℕ → Type 0
FindsOverlap cells j i =
    IsFirstOverlap cells j i ⊎ (IsApart cells × (j ≡ length cells) × (i ≡ length cells))
