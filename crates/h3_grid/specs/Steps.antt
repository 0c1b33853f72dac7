-- Steps from a cell to a neighbor.
--
-- A walk over the grid is on a cell, with a rotation: how often its directions are turned in the frame of the base cell
-- that the cell is in. A step adds its direction, turned that often, to the place of the cell's digits. The sum has an
-- expansion: digits, which are those of a cell of the same base cell, or else a unit and digits, and then the neighbor
-- is in the base cell to which the table links that border. No step starts or ends in a pentagon base cell.
use Rattle.std.specs.Prelude.{◌≡◌, ℕ, ◌+◌, ◌%◌, List, map, true, false, if◌then◌else◌, Option, Some, None, ◌↔◌, zero, suc, [], ◌∷◌, length, Bool, ◌&&◌}
use Rattle.std.specs.List.{find, flat_map, range_with_len}
use Rattle.std.specs.Ordering.{int_eq}
use Rattle.h3_index.specs.Cell.{Address, is_pentagon_base}
use Rattle.h3_directions.specs.declared.direction.Direction.{Direction}
use Rattle.h3_directions.specs.Eisenstein.{Eisenstein, sum_of}
use Rattle.h3_directions.specs.Direction.{digit_turned, turned, directions, unit_of, value_of}
use Rattle.h3_lattice.specs.Digits.{cell_of}
use Rattle.h3_lattice.specs.Expansion.{place, scaled}
use Rattle.h3_lattice.specs.Moved.{IsSum}
use Rattle.h3_table.specs.Links.{Links}

-- ---- a step

-- State: a cell, and a walk's rotation there
pub record State : Type 0 where
  pub cell : Address
  pub rotation : ℕ

-- state c rot: that state
abbrev pub state : Address → ℕ → State
state c rot = record { cell = c; rotation = rot }

-- across a link, to a base cell and by a number of turns: each digit is turned, and the turns are added to the
-- rotation. Pentagon base cells are not entered
abbrev pub crossed : ℕ × ℕ → ℕ → List ℕ → Option State
crossed link rot es =
    if is_pentagon_base link.0 then None
    else Some (state (cell_of link.0 (map (digit_turned link.1) es)) ((rot + link.1) % 6))

-- where a sum leads from a state: to the cell of its digits, or across the border where it lies
abbrev pub led_to : Links → State → Option Direction → List ℕ → Option State
led_to link s None es = Some (state (cell_of s.cell.base es) s.rotation)
led_to link s (Some border) es = crossed (link s.cell.base border) s.rotation es

-- a sum of the cell's digits and the direction turned by the rotation, and where it leads
pub record Leads (link : Links) (s : State) (d : Direction) (r : Option State) : Type 0 where
  pub out : Option Direction
  pub list : List ℕ
  pub sum : IsSum s.cell.digits (turned s.rotation d) out list
  pub is : r ≡ led_to link s out list

-- IsStep link s d r: a sum of the cell's digits and the direction turned by the rotation leads from s to r: inside the
-- base cell, or across a border by the link, with the digits turned; to none where it starts or ends in a pentagon base
-- cell
pub record IsStep (link : Links) (s : State) (d : Direction) (r : Option State) : Type 0 where
  pub from_pentagon : is_pentagon_base s.cell.base ≡ true → r ≡ None
  pub from_hexagon : is_pentagon_base s.cell.base ≡ false → Leads link s d r

-- ---- the step as a function
--
-- The sum of a place and a direction has one expansion. It is searched for among all pairs of 0 or a unit and a digit
-- list.

-- all lists of n digits
unfoldable pub digit_lists : ℕ → List (List ℕ)
digit_lists zero = [] ∷ []
digit_lists (suc n) = flat_map (λ d. map (λ ds. d ∷ ds) (digit_lists n)) (range_with_len 0 7)

-- what a sum may carry: nothing, or the unit of a direction
abbrev pub carried : List (Option Direction)
carried = None ∷ map (λ d. Some d) directions

-- all pairs that may be an expansion by n digits
unfoldable pub candidates : ℕ → List (Option Direction × List ℕ)
candidates n = flat_map (λ u. map (λ es. (u, es)) (digit_lists n)) carried

abbrev pub same_point : Eisenstein → Eisenstein → Bool
same_point x y = int_eq x.a y.a && int_eq x.b y.b

-- the place of the digits plus the direction is u * M_1 * .. * M_r plus the place of the others
abbrev pub is_expansion : List ℕ → Direction → Option Direction × List ℕ → Bool
is_expansion ds d p =
    same_point (sum_of (place ds) (unit_of d)) (sum_of (scaled 0 (length ds) (value_of p.0)) (place p.1))

-- the expansion of the place of the digits plus the direction
unfoldable pub found_sum : List ℕ → Direction → Option (Option Direction × List ℕ)
found_sum ds d = find (is_expansion ds d) (candidates (length ds))

abbrev pub found_state : Links → State → Option (Option Direction × List ℕ) → Option State
found_state link s None = None
found_state link s (Some p) = led_to link s p.0 p.1

-- step_of link s d: the state to which a step leads, as a function; none where it is refused
unfoldable pub step_of : Links → State → Direction → Option State
step_of link s d =
    if is_pentagon_base s.cell.base then None else found_state link s (found_sum s.cell.digits (turned s.rotation d))

-- StepsAreFound: `step_of` is the step
abbrev pub StepsAreFound : Type 0
StepsAreFound =
    (link : Links) (s : State) (d : Direction) (r : Option State) → IsStep link s d r ↔ (step_of link s d ≡ r)
