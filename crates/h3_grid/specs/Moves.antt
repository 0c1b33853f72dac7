-- The moves of a disk's walk, and the spiral of places that they lead to.
--
-- H3's `gridDiskUnsafe` writes the origin, and then each ring: a step I into the ring, which writes nothing, and then,
-- in each of the directions J, JK, K, IK, I and IJ, as many steps as the ring's number, each of which writes a cell.
use Rattle.std.specs.Prelude.{ℕ, pos, List, [], ◌∷◌, map, replicate, Bool, true, false, if◌then◌else◌}
use Rattle.std.specs.List.{flat_map, range_with_len}
use Rattle.h3_directions.specs.declared.direction.Direction.{Direction}
use Rattle.h3_directions.specs.declared.direction.Direction.TheVariants.{K, J, JK, I, IK, IJ}
use Rattle.h3_directions.specs.Eisenstein.{Eisenstein, eisenstein, product_of, sum_of, zero_point}
use Rattle.h3_directions.specs.Direction.{turning, unit_of}

-- Move: a direction, a ring, and whether the cell that the move leads to is written
pub record Move : Type 0 where
  pub direction : Direction
  pub ring : ℕ
  pub written : Bool

abbrev pub silent : ℕ → Direction → Move
silent r d = record { direction = d; ring = r; written = false }

abbrev pub write : ℕ → Direction → Move
write r d = record { direction = d; ring = r; written = true }

-- the directions of the sides of a ring, in the order in which it is walked
abbrev pub sides : List Direction
sides = J ∷ JK ∷ K ∷ IK ∷ I ∷ IJ ∷ []

-- along one side of ring r
abbrev pub side_moves : ℕ → Direction → List Move
side_moves r d = replicate r (write r d)

-- into ring r, and around it
unfoldable pub ring_moves : ℕ → List Move
ring_moves r = silent r I ∷ flat_map (side_moves r) sides

-- moves k: the moves of a disk's walk: for each ring r of 1 to k one I that writes nothing, and then r written moves
-- each of J, JK, K, IK, I, IJ
unfoldable pub moves : ℕ → List Move
moves k = flat_map ring_moves (range_with_len 1 k)

-- ---- the spiral

-- the j-th place of side i of ring r: (1 + w)^i * (r + j*w)
abbrev pub spiral_place : ℕ → ℕ → ℕ → Eisenstein
spiral_place r i j = product_of (turning i) (eisenstein (pos r) (pos j))

-- the places of a side: its corner is the last place of the side before
abbrev pub side_places : ℕ → ℕ → List Eisenstein
side_places r i = map (spiral_place r i) (range_with_len 1 r)

unfoldable pub ring_places : ℕ → List Eisenstein
ring_places r = flat_map (side_places r) (range_with_len 0 6)

-- spiral k: 0, and the places (1 + w)^i * (r + j*w), ring by ring
unfoldable pub spiral : ℕ → List Eisenstein
spiral k = zero_point ∷ flat_map ring_places (range_with_len 1 k)

-- the place is kept where the move is written
abbrev pub kept : Bool → Eisenstein → List Eisenstein → List Eisenstein
kept written z places = if written then z ∷ places else places

-- sums_from z moves: what the moves up to each write add up to
unfoldable pub sums_from : Eisenstein → List Move → List Eisenstein
sums_from z [] = []
sums_from z (m ∷ ms) = kept m.written (sum_of z (unit_of m.direction)) (sums_from (sum_of z (unit_of m.direction)) ms)
