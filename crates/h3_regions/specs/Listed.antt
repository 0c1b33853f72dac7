-- Pairs in the order of their cells' numbers, by which the areas of a cell are written one after another. Private
-- contracts and proofs alone cite this file.
use Rattle.std.specs.Prelude.{ℕ, ◌+◌, ◌*◌, ◌^◌, ◌<◌, ◌≤◌, ◌↔◌, List, All, AllPairs, Contains, get_or, length, take}
use Rattle.std.specs.List.{AllWithin}
use Rattle.h3_index.specs.Cell.{Address, IsCell, number_of, resolution}
use Rattle.h3_index.specs.Descendants.{IsAncestor}
use Rattle.h3_regions.specs.Areas.{IsBefore}

-- a number by which pairs are in order of their cells' numbers, and those of one cell in the areas' order
abbrev pub pair_number : (Address × ℕ) → ℕ
pair_number p = number_of p.0 * 2 ^ 32 + p.1

-- pairs in that order
pub record AreListed (areas : List (Address × ℕ)) : Type 0 where
  pub valid : All (λ p. IsCell p.0) areas
  pub small : All (λ p. p.1 < 2 ^ 32) areas
  pub in_order : AllPairs (λ p q. pair_number p ≤ pair_number q) areas

-- i is the place of the first pair whose cell's number is not below another
pub record IsFirstOf (areas : List (Address × ℕ)) (number i : ℕ) : Type 0 where
  pub within : i ≤ length areas
  pub before : AllWithin (λ p. number_of p.0 < number) areas 0 i
  pub after : AllWithin (λ p. number ≤ number_of p.0) areas i (length areas)

-- x lies in the area by a cell that is coarser than r
pub record LiesAbove (areas : List (Address × ℕ)) (x : Address) (r n : ℕ) : Type 0 where
  pub by : Address
  pub member : Contains areas (by, n)
  pub above : IsAncestor by x
  pub coarser : resolution by < r

-- the pairs of cells of a resolution and of finer ones start at a place
pub record IsStart (areas : List (Address × ℕ)) (r place : ℕ) : Type 0 where
  pub within : place ≤ length areas
  pub before : AllWithin (λ p. resolution p.0 < r) areas 0 place
  pub after : AllWithin (λ p. r ≤ resolution p.0) areas place (length areas)

-- the places where those of each resolution start; at 16, which no cell has, is the end
abbrev pub AreStarts : List (Address × ℕ) → List ℕ → Type 0
AreStarts areas starts = (r d : ℕ) → r < 17 → IsStart areas r (get_or starts r d)

-- the areas that x lies in by cells coarser than r are the first numbers, in order, and the pairs of r start at a
-- place
pub record IsWritten (areas : List (Address × ℕ)) (x : Address) (r place count : ℕ) (numbers : List ℕ) : Type 0 where
  pub start : IsStart areas r place
  pub fewer : count ≤ place
  pub room : length areas ≤ length numbers
  pub each : (n : ℕ) → Contains (take count numbers) n ↔ LiesAbove areas x r n
  pub in_order : AllPairs (IsBefore areas x) (take count numbers)
