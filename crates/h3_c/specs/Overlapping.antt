-- Areas that may overlap, given by indexes and numbers, and the areas of each index of a column, one index's after
-- another's.
use Rattle.std.specs.Prelude.{ℕ, ◌≡◌, ◌<◌, ◌+◌, ◌++◌, nat_le, nat_lt, List, [], length, map, zip, Result, Ok}
use Rattle.std.specs.Prelude.{slice_index, slice_range, if◌then◌else◌}
use Rattle.std.specs.List.{flat_map}
use Rattle.std.specs.Option.{option_map_or}
use Rattle.std.specs.Result.{result_unwrap_or}
use Rattle.h3_index.specs.Cell.{Address}
use Rattle.h3_index.specs.Error.{error_number}
use Rattle.h3_index.specs.declared.error.H3Error.{H3Error}
use Rattle.h3_index.specs.declared.error.H3Error.TheVariants.{CellInvalid}
use Rattle.h3_functions.specs.Inspection.{cell_from, for_value}
use Rattle.h3_regions.specs.Areas.{areas_of}
use Rattle.h3_c.specs.Lists.{laid_over}
use Rattle.h3_c.specs.Sets.{cells_in}
use Rattle.h3_c.specs.Starts.{lists_code, lists_place, sizes_of, starts_from, starts_over}

-- cell_to_areas areas h: the areas in which the cell with an index lies, in their order; none where it is refused
abbrev pub cell_to_areas : List (Address × ℕ) → ℕ → List ℕ
cell_to_areas areas h = result_unwrap_or (for_value (λ c. Ok (areas_of areas c)) (cell_from h)) []

-- area_counts areas hs: how many these are for each index, or its error
abbrev pub area_counts : List (Address × ℕ) → List ℕ → List (Result ℕ H3Error)
area_counts areas hs = map (λ h. for_value (λ c. Ok (length (areas_of areas c))) (cell_from h)) hs

-- all_areas areas hs: the areas of each index, one index's after another's
abbrev pub all_areas : List (Address × ℕ) → List ℕ → List ℕ
all_areas areas hs = flat_map (cell_to_areas areas) hs

-- area_starts areas hs: the places where the areas of each index begin among those of all, and where the last one's end
abbrev pub area_starts : List (Address × ℕ) → List ℕ → List ℕ
area_starts areas hs = starts_from 0 (sizes_of (area_counts areas hs))

-- AreasStandAtStarts: in the list of all areas those of each index are from the place where they begin up to the next
abbrev pub AreasStandAtStarts : Type 0
AreasStandAtStarts =
    (areas : List (Address × ℕ)) (hs : List ℕ) (i : ℕ) → i < length hs
    → slice_range (all_areas areas hs)
    (slice_index (area_starts areas hs) i) (slice_index (area_starts areas hs) (i + 1))
    ≡ cell_to_areas areas (slice_index hs i)

-- ---- what is written of the areas in which the cell at each place has the number at that place

-- if_slots given numbers hs room comes stands: what comes where there are at least as many numbers as indexes given,
-- and room for a place more than there are indexes; or what stands where there are not
abbrev pub if_slots : {A : Type 0} → List ℕ → List ℕ → List ℕ → ℕ → A → A → A
if_slots given numbers hs room comes stands =
    if nat_le (length given) (length numbers) then (if nat_lt (length hs) room then comes else stands) else stands

-- if_areas given numbers comes stands: what comes of the areas, or what stands where a given index is not a valid cell
abbrev pub if_areas : {A : Type 0} → List ℕ → List ℕ → (List (Address × ℕ) → A) → A → A
if_areas given numbers comes stands = option_map_or (λ cells. comes (zip cells numbers)) (cells_in given) stands

-- cells_to_areas_code given numbers hs starts room: 14 where there are too few slots, or 5 where a given index is not a
-- valid cell; else 14 where there is too little room for all areas, or the number of the first error, or 0
abbrev pub cells_to_areas_code : List ℕ → List ℕ → List ℕ → ℕ → ℕ → ℕ
cells_to_areas_code given numbers hs starts room =
    if_slots given numbers hs starts
    (if_areas given numbers (λ areas. lists_code (area_counts areas hs) room) (error_number CellInvalid)) 14

-- cells_to_areas_starts given numbers hs old: where the areas of each index begin, and where the last one's end, up to
-- the greatest place, laid over what was there; or what was there
abbrev pub cells_to_areas_starts : List ℕ → List ℕ → List ℕ → List ℕ → List ℕ
cells_to_areas_starts given numbers hs old =
    if_slots given numbers hs (length old)
    (if_areas given numbers (λ areas. starts_over (area_counts areas hs) old) old) old

-- cells_to_areas_over given numbers hs starts old: the areas of each index, one index's after another's, laid over what
-- was there; or what was there
abbrev pub cells_to_areas_over : List ℕ → List ℕ → List ℕ → ℕ → List ℕ → List ℕ
cells_to_areas_over given numbers hs starts old =
    if_slots given numbers hs starts (if_areas given numbers (λ areas. laid_over (all_areas areas hs) old) old) old

-- cells_to_areas_place given numbers hs starts room old: the place of the first error, or how many indexes there are;
-- or the place of the first one whose areas do not all have room; or what was there
abbrev pub cells_to_areas_place : List ℕ → List ℕ → List ℕ → ℕ → ℕ → ℕ → ℕ
cells_to_areas_place given numbers hs starts room old =
    if_slots given numbers hs starts (if_areas given numbers (λ areas. lists_place (area_counts areas hs) room) old) old

-- ---- numbers that come after others

-- NumbersAfter place numbers old new: where as many numbers as a place says are laid over a list, these come after
-- them; private contracts alone cite it
abbrev pub NumbersAfter : ℕ → List ℕ → List ℕ → List ℕ → Type 0
NumbersAfter place numbers old new =
    (before first : List ℕ) → length before ≡ place → old ≡ laid_over before first
    → new ≡ laid_over (before ++ numbers) first
