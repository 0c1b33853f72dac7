-- The definitions at worked values, by computation.
use Rattle.std.specs.Prelude.{◌≡◌, [], ◌∷◌, map, refl}
use Rattle.h3_index.specs.Cell.{number_of}
use Rattle.h3_index.specs.Count.{base_cell}
use Rattle.h3_index.specs.Descendants.{descendants}
use Rattle.h3_index.specs.Paths.{paths}
use Rattle.h3_tree.specs.LastChild.{last_at}
use Rattle.h3_tree.specs.Positions.{position_under}

-- a pentagon has no child of digit 1
pentagon_children : map (λ c. number_of c) (descendants (base_cell 4) 1)
    ≡ 0x81083ffffffffff ∷ 0x8108bffffffffff ∷ 0x8108fffffffffff ∷ 0x81093ffffffffff ∷ 0x81097ffffffffff
    ∷ 0x8109bffffffffff ∷ []
unfolding descendants paths number_of
pentagon_children = refl

-- the first child of a pentagon that is a hexagon has the position 1, and the last of its 41 descendants two levels
-- down 40
pentagon_positions : map (λ x. position_under (base_cell 4) x)
    (record { base = 4; digits = 2 ∷ [] } ∷ record { base = 4; digits = 6 ∷ 6 ∷ [] } ∷ [])
    ≡ 1 ∷ 40 ∷ []
unfolding position_under descendants paths number_of
pentagon_positions = refl

-- its last child has the digit 6, as that of a hexagon
pentagon_last_child : number_of (last_at (base_cell 4) 1) ≡ 0x8109bffffffffff
unfolding number_of
pentagon_last_child = refl

-- the last child of 85283473fffffff at resolution 7
hexagon_last_child : number_of (last_at (record { base = 20; digits = 0 ∷ 6 ∷ 4 ∷ 3 ∷ 4 ∷ [] }) 7) ≡ 0x872834736ffffff
unfolding number_of
hexagon_last_child = refl
