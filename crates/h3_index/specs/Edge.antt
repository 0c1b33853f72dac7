-- Directed edges, and the numbers that stand for them.
--
-- H3's directed edges: the index of the cell that the edge leaves, with mode 2 in place of mode 1, and the direction,
-- 1 to 6, in the three bits that depend on the mode. A pentagon has no edge of direction 1 (K).
use Rattle.std.specs.Prelude.{ℕ, ◌≢◌, ◌+◌, ◌*◌, ◌^◌, ◌<◌, ◌==◌, nat_lt, Bool, ◌&&◌, not, IsTrue, Option, Some, None, if◌then◌else◌}
use Rattle.h3_index.specs.Cell.{Address, IsCell, is_pentagon, number_of}
use Rattle.h3_index.specs.declared.error.H3Error.{H3Error}
use Rattle.h3_index.specs.declared.error.H3Error.TheVariants.{DirEdgeInvalid}

-- DirectedEdge: a cell, the origin, and a direction
pub record DirectedEdge : Type 0 where
  pub origin : Address
  pub direction : ℕ

-- directed_edge c d: the edge of this origin and direction
abbrev pub directed_edge : Address → ℕ → DirectedEdge
directed_edge c d = record { origin = c; direction = d }

-- IsEdge e: the origin is a cell, and the direction 1 to 6, not 1 at a pentagon
pub record IsEdge (e : DirectedEdge) : Type 0 where
  pub origin_cell : IsCell e.origin
  pub some_direction : 0 < e.direction
  pub direction_small : e.direction < 7
  pub not_deleted : IsTrue (is_pentagon e.origin) → e.direction ≢ 1

-- whether a cell has an edge in a direction: in each of 1 to 6, except 1 at a pentagon
abbrev pub has_edge : Address → ℕ → Bool
has_edge c d = nat_lt 0 d && nat_lt d 7 && not (is_pentagon c && d == 1)

-- direction_refusal c d: the error where the cell has no edge in the direction
abbrev pub direction_refusal : Address → ℕ → Option H3Error
direction_refusal c d = if has_edge c d then None else Some DirEdgeInvalid

-- edge_number e: the origin's number + 2^59 + direction * 2^56
unfoldable pub edge_number : DirectedEdge → ℕ
edge_number e = number_of e.origin + 2 ^ 59 + e.direction * 2 ^ 56
