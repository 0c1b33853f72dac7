-- Laws of cells, of their numbers and of their descendants.
use Rattle.std.specs.Prelude.{ℕ, ◌≡◌, ◌+◌, ◌-◌, ◌*◌, ◌/◌, ◌^◌, ◌<◌, ◌≤◌, ◌↔◌, List, ◌∷◌, length, replicate, Bool, true, false, None, Some, Contains, AllPairs}
use Rattle.std.specs.Cmp.Lexicographic.{slice_cmp}
use Rattle.std.specs.Ordering.{nat_cmp, ordering_then}
use Rattle.h3_index.specs.Cell.{Address, IsCell, is_pentagon, number_of, resolution}
use Rattle.h3_index.specs.CellNumber.{cell_in}
use Rattle.h3_index.specs.Descendants.{ancestor_at, IsDescendant, descendants}
use Rattle.h3_index.specs.Edge.{DirectedEdge, IsEdge, edge_number}
use Rattle.h3_index.specs.Paths.{paths, next_path, AreLinked}

-- NumbersAreUnique: cells with the same number are equal
abbrev pub NumbersAreUnique : Type 0
NumbersAreUnique = (a b : Address) → IsCell a → IsCell b → number_of a ≡ number_of b → a ≡ b

-- the number of a cell is read as that cell
abbrev pub NumbersAreRead : Type 0
NumbersAreRead = (c : Address) → IsCell c → cell_in (number_of c) ≡ Some c

-- NumbersFollowFields: numbers order cells by resolution, base cell and digits
abbrev pub NumbersFollowFields : Type 0
NumbersFollowFields =
    (a b : Address) → IsCell a → IsCell b
    → nat_cmp (number_of a) (number_of b)
    ≡ ordering_then (nat_cmp (resolution a) (resolution b))
    (ordering_then (nat_cmp a.base b.base) (slice_cmp nat_cmp a.digits b.digits))

-- EdgeNumbersFollowFields: numbers order edges by direction, and then as the cells that they leave
abbrev pub EdgeNumbersFollowFields : Type 0
EdgeNumbersFollowFields =
    (a b : DirectedEdge) → IsEdge a → IsEdge b
    → nat_cmp (edge_number a) (edge_number b)
    ≡ ordering_then (nat_cmp a.direction b.direction)
    (ordering_then (nat_cmp (resolution a.origin) (resolution b.origin))
    (ordering_then (nat_cmp a.origin.base b.origin.base)
    (slice_cmp nat_cmp a.origin.digits b.origin.digits)))

-- CutsAreCells: a cell cut at a resolution up to its own is a cell
abbrev pub CutsAreCells : Type 0
CutsAreCells = (c : Address) (r : ℕ) → IsCell c → r ≤ resolution c → IsCell (ancestor_at c r)

-- DescendantsAreListed: `descendants` holds the descendants and nothing else
abbrev pub DescendantsAreListed : Type 0
DescendantsAreListed =
    (c : Address) (s : ℕ) → IsCell c → resolution c ≤ s → s ≤ 15 → (x : Address)
    → Contains (descendants c s) x ↔ IsDescendant c s x

-- DescendantsAscend: `descendants` ascends
abbrev pub DescendantsAscend : Type 0
DescendantsAscend =
    (c : Address) (s : ℕ) → AllPairs (λ a b. number_of a < number_of b) (descendants c s)

-- HexagonsHaveSevens: n levels below a hexagon it has 7^n members
abbrev pub HexagonsHaveSevens : Type 0
HexagonsHaveSevens =
    (c : Address) (s : ℕ) → is_pentagon c ≡ false → length (descendants c s) ≡ 7 ^ (s - resolution c)

-- PentagonsHaveFewer: n levels below a pentagon it has 1 + 5 * ((7^n - 1) / 6)
abbrev pub PentagonsHaveFewer : Type 0
PentagonsHaveFewer =
    (c : Address) (s : ℕ) → is_pentagon c ≡ true → length (descendants c s) ≡ 1 + 5 * ((7 ^ (s - resolution c) - 1) / 6)

-- the paths begin with zeros, each but the first is the next of the one before, and the last has none
pub record IsChain (pentagon : Bool) (n : ℕ) : Type 0 where
  pub others : List (List ℕ)
  pub is : paths pentagon n ≡ replicate n 0 ∷ others
  pub links : AreLinked (next_path pentagon) (replicate n 0) others None

-- PathsAreChains: the paths begin with zeros, each is the next of the one before, and the last has none
abbrev pub PathsAreChains : Type 0
PathsAreChains = (pentagon : Bool) (n : ℕ) → IsChain pentagon n
