-- Reversal and corner of steps, at every resolution.
--
-- The checks of a table are about base cells: the link back undoes a link, and the links around a corner agree. The
-- same holds of steps between cells, whatever their resolution. A step adds a direction to the place of a cell's
-- digits. The sum is in the same base cell, or across a border of it; there the digits are turned, as the link of the
-- border says.
use Rattle.std.specs.Prelude.{◌≡◌, ℕ, ◌+◌, ◌-◌, ◌%◌, List, map, Option, Some, None}
use Rattle.std.specs.Int.Digits.{AllBelowBase}
use Rattle.h3_directions.specs.declared.direction.Direction.{Direction}
use Rattle.h3_directions.specs.Direction.{digit_turned, opposite, turned, turned_once}
use Rattle.h3_table.specs.Links.{IsHexagonBase, IsSound, Links}
use Rattle.h3_lattice.specs.Moved.{IsSum}

-- where a step leads: a base cell, how often digits are turned on the way into it, and the digits there
pub record Reached : Type 0 where
  pub base : ℕ
  pub turns : ℕ
  pub digits : List ℕ

abbrev pub reached : ℕ → ℕ → List ℕ → Reached
reached b n ds = record { base = b; turns = n; digits = ds }

-- across a link
abbrev pub across : ℕ × ℕ → List ℕ → Reached
across l es = reached l.0 l.1 (map (digit_turned l.1) es)

-- where a sum lies that starts in base cell b
abbrev pub led_by : Links → ℕ → Option Direction → List ℕ → Reached
led_by link b None es = reached b 0 es
led_by link b (Some border) es = across (link b border) es

-- Reaches link b ds d r: from the cell of base cell b and digits ds the direction d leads to r: a base cell, digits,
-- and how often they were turned on the way
pub record Reaches (link : Links) (b : ℕ) (ds : List ℕ) (d : Direction) (r : Reached) : Type 0 where
  pub out : Option Direction
  pub list : List ℕ
  pub sum : IsSum ds d out list
  pub is : r ≡ led_by link b out list

-- ReversalsLift: over sound links, a step back undoes a step, at every resolution
--
-- from a hexagon base cell into another or the same, the opposite direction, turned as on the way, leads back and
-- undoes the turns
abbrev pub ReversalsLift : Type 0
ReversalsLift =
    (link : Links) → IsSound link → (b : ℕ) (ds : List ℕ) (d : Direction) (r : Reached) → IsHexagonBase b
    → AllBelowBase 7 ds → Reaches link b ds d r
    → IsHexagonBase r.base
    → Reaches link r.base r.digits (turned r.turns (opposite d)) (reached b ((6 - r.turns) % 6) ds)

-- CornersLift: and the steps in a direction and in the next one are a step apart
--
-- where the cells in a direction and in the next one are in hexagon base cells, the direction turned twice, and as on
-- the way, leads from the first to the second, and its turns make up the difference
abbrev pub CornersLift : Type 0
CornersLift =
    (link : Links) → IsSound link → (b : ℕ) (ds : List ℕ) (d : Direction) (r s : Reached) → IsHexagonBase b
    → Reaches link b ds d r → Reaches link b ds (turned_once d) s
    → IsHexagonBase r.base → IsHexagonBase s.base
    → Reaches link r.base r.digits (turned r.turns (turned 2 d)) (reached s.base ((s.turns + 6 - r.turns) % 6) s.digits)
