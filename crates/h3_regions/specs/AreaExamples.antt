-- The definitions of areas at worked values, by computation.
use Rattle.std.specs.Prelude.{ℕ, ◌≡◌, List, [], ◌∷◌, map, Some, None, refl}
use Rattle.h3_index.specs.Cell.{Address}
use Rattle.h3_index.specs.Count.{base_cell}
use Rattle.h3_index.specs.Descendants.{child}
use Rattle.h3_index.specs.declared.error.H3Error.TheVariants.{DuplicateInput}
use Rattle.h3_regions.specs.Areas.{areas_of, cells_of}
use Rattle.h3_regions.specs.AreaCounting.{count_in_area, count_in_none}
use Rattle.h3_regions.specs.Refusals.{areas_refusal}

-- a cell, two children of it, and a cell that is no child of it
abbrev parent : Address
parent = child (child (base_cell 20) 3) 5

abbrev one : Address
one = child parent 2

abbrev another : Address
another = child parent 4

abbrev outside : Address
outside = child (child (child (base_cell 20) 3) 1) 0

-- the areas north (0), south (1), and north again
abbrev table : List (Address × ℕ)
table = (one, 0) ∷ (another, 1) ∷ (one, 0) ∷ []

-- the same, and an area that has the parent (2)
abbrev longer : List (Address × ℕ)
longer = (one, 0) ∷ (another, 1) ∷ (one, 0) ∷ (parent, 2) ∷ []

cells_of_north : cells_of longer 0 ≡ one ∷ one ∷ []
cells_of_north = refl

-- the coarser area first, and then the finer one, although that has the lower number and two cells
of_one : areas_of longer one ≡ 2 ∷ 0 ∷ []
unfolding areas_of
of_one = refl

of_another : areas_of longer another ≡ 2 ∷ 1 ∷ []
unfolding areas_of
of_another = refl

of_outside : areas_of longer outside ≡ []
unfolding areas_of
of_outside = refl

of_parent : areas_of longer parent ≡ 2 ∷ []
unfolding areas_of
of_parent = refl

-- an area that has a cell and one below it is listed once, by the coarser one; areas of one resolution by number
of_both : areas_of ((one, 1) ∷ (parent, 1) ∷ (one, 0) ∷ (parent, 3) ∷ []) one ≡ 1 ∷ 3 ∷ 0 ∷ []
unfolding areas_of
of_both = refl

-- two areas with one cell, and with a cell and one below it, overlap; one area alone does not
taken : areas_refusal table ≡ None
taken = refl

refused : areas_refusal longer ≡ Some DuplicateInput
refused = refl

refused_equal : areas_refusal ((one, 0) ∷ (one, 1) ∷ []) ≡ Some DuplicateInput
refused_equal = refl

own_taken : areas_refusal ((one, 0) ∷ (parent, 0) ∷ (one, 0) ∷ []) ≡ None
own_taken = refl

-- a list of points
abbrev seen : List Address
seen = one ∷ another ∷ outside ∷ []

counted : map (count_in_area longer seen) (0 ∷ 1 ∷ 2 ∷ []) ≡ 1 ∷ 1 ∷ 2 ∷ []
counted = refl

counted_none : count_in_none longer seen ≡ 1
counted_none = refl
