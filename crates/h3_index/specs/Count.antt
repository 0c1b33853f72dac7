-- Cells by their numbers: base cells, pentagons, and how many cells a resolution has.
use Rattle.std.specs.Prelude.{ℕ, ℤ, pos, negsuc, ◌≡◌, ◌+◌, ◌<◌, ◌≤◌, ◌↔◌, nat_lt, List, map, AllPairs, Contains, Option, Some, None, true, if◌then◌else◌, []}
use Rattle.std.specs.List.{flat_map, range_with_len}
use Rattle.h3_index.specs.Cell.{Address, IsCell, is_pentagon, number_of, pentagon_bases, resolution}
use Rattle.h3_index.specs.Descendants.{center_descendant, descendants}

-- number_below n x: the whole number x, if it is 0 or more and below n
unfoldable pub number_below : ℕ → ℤ → Option ℕ
number_below limit (pos n) = if nat_lt n limit then Some n else None
number_below limit (negsuc n) = None

-- resolution_of x: the whole number x, if it is a resolution
abbrev pub resolution_of : ℤ → Option ℕ
resolution_of res = number_below 16 res

-- base_cell b: the cell of resolution 0 in a base cell
abbrev pub base_cell : ℕ → Address
base_cell b = record { base = b; digits = [] }

-- cells_of r: the cells of a resolution, ascending
unfoldable pub cells_of : ℕ → List Address
cells_of r = flat_map (λ b. descendants (base_cell b) r) (range_with_len 0 122)

-- cells_up_to r: the cells of resolutions 0 to r, ascending
unfoldable pub cells_up_to : ℕ → List Address
cells_up_to r = flat_map cells_of (range_with_len 0 (r + 1))

-- pentagons r: the pentagons of a resolution, ascending
unfoldable pub pentagons : ℕ → List Address
pentagons r = map (λ b. center_descendant (base_cell b) r) pentagon_bases

-- ListsCells P cells: the list holds the cells with a property and nothing else, and ascends
pub record ListsCells (P : Address → Type 0) (cells : List Address) : Type 0 where
  pub each : (c : Address) → Contains cells c ↔ (IsCell c × P c)
  pub ascending : AllPairs (λ a b. number_of a < number_of b) cells

-- CellsAreListed: `cells_of` lists the cells of a resolution
abbrev pub CellsAreListed : Type 0
CellsAreListed = (r : ℕ) → r < 16 → ListsCells (λ c. resolution c ≡ r) (cells_of r)

-- CellsUpToAreListed: `cells_up_to` lists the cells up to a resolution
abbrev pub CellsUpToAreListed : Type 0
CellsUpToAreListed = (r : ℕ) → r < 16 → ListsCells (λ c. resolution c ≤ r) (cells_up_to r)

-- PentagonsAreListed: `pentagons` lists the pentagons of a resolution
abbrev pub PentagonsAreListed : Type 0
PentagonsAreListed =
    (r : ℕ) → r < 16 → ListsCells (λ c. (resolution c ≡ r) × (is_pentagon c ≡ true)) (pentagons r)
