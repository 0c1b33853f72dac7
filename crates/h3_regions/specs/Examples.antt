-- The definitions at worked values, by computation.
use Rattle.std.specs.Prelude.{ℕ, ◌≡◌, List, [], ◌∷◌, map, Some, None, refl}
use Rattle.h3_index.specs.Cell.{Address}
use Rattle.h3_index.specs.Count.{base_cell, cells_of, cells_up_to}
use Rattle.h3_index.specs.Descendants.{child, descendants}
use Rattle.h3_index.specs.Paths.{paths}
use Rattle.h3_set.specs.Compacted.{compacted}
use Rattle.h3_regions.specs.Algebra.{difference, intersection}
use Rattle.h3_regions.specs.Counting.{count_in, count_outside}
use Rattle.h3_regions.specs.Zones.{zone_of}

-- children of the base cell 20, a hexagon, and of 4, a pentagon
abbrev hexagon_children : List ℕ → List Address
hexagon_children digits = map (child (base_cell 20)) digits

abbrev pentagon_children : List ℕ → List Address
pentagon_children digits = map (child (base_cell 4)) digits

abbrev all_children : List Address
all_children = hexagon_children (3 ∷ 0 ∷ 6 ∷ 1 ∷ 5 ∷ 2 ∷ 4 ∷ [])

-- a cell without one of its children is the others, without itself nothing
hexagon_less_one : difference (base_cell 20 ∷ []) (hexagon_children (2 ∷ []))
    ≡ hexagon_children (0 ∷ 1 ∷ 3 ∷ 4 ∷ 5 ∷ 6 ∷ [])
unfolding difference compacted cells_up_to cells_of descendants paths
hexagon_less_one = refl

pentagon_less_one : difference (base_cell 4 ∷ []) (pentagon_children (2 ∷ []))
    ≡ pentagon_children (0 ∷ 3 ∷ 4 ∷ 5 ∷ 6 ∷ [])
unfolding difference compacted cells_up_to cells_of descendants paths
pentagon_less_one = refl

less_itself : difference (base_cell 4 ∷ []) (base_cell 4 ∷ []) ≡ []
unfolding difference compacted cells_up_to cells_of descendants paths
less_itself = refl

less_none : difference all_children [] ≡ base_cell 20 ∷ []
unfolding difference compacted cells_up_to cells_of descendants paths
less_none = refl

-- what children and their parent share are the children, compacted
shared_whole : intersection all_children (base_cell 20 ∷ []) ≡ base_cell 20 ∷ []
unfolding intersection compacted cells_up_to cells_of descendants paths
shared_whole = refl

shared_part : intersection (base_cell 20 ∷ base_cell 4 ∷ []) (hexagon_children (3 ∷ 1 ∷ []))
    ≡ hexagon_children (1 ∷ 3 ∷ [])
unfolding intersection compacted cells_up_to cells_of descendants paths
shared_part = refl

shared_with_none : intersection (base_cell 20 ∷ []) [] ≡ []
unfolding intersection compacted cells_up_to cells_of descendants paths
shared_with_none = refl

none_shared : intersection [] (base_cell 20 ∷ []) ≡ []
unfolding intersection compacted cells_up_to cells_of descendants paths
none_shared = refl

-- zones of two resolutions
abbrev zones : List Address
zones = child (base_cell 20) 3 ∷ base_cell 4 ∷ []

below_a_zone : zone_of zones (child (child (base_cell 20) 3) 5) ≡ Some (child (base_cell 20) 3)
below_a_zone = refl

a_zone : zone_of zones (base_cell 4) ≡ Some (base_cell 4)
a_zone = refl

above_a_zone : zone_of zones (base_cell 20) ≡ None
above_a_zone = refl

-- a cell that is listed twice counts twice
abbrev seen : List Address
seen =
    child (base_cell 20) 3 ∷ child (child (base_cell 20) 3) 5 ∷ base_cell 20 ∷ child (base_cell 20) 3 ∷ []

counted_thrice : count_in (child (base_cell 20) 3) seen ≡ 3
counted_thrice = refl

counted_never : count_in (base_cell 4) seen ≡ 0
counted_never = refl

counted_outside : count_outside zones seen ≡ 1
counted_outside = refl
