-- The two classes of resolutions, their multipliers, and carries.
--
-- H3's odd resolutions are Class III and its even ones Class II. From one resolution to the next finer one the grid is
-- multiplied by a number of norm 7: by 2 - w to an odd resolution, as H3's `_downAp7` does, and by 3 + w to an even
-- one, as its `_downAp7r`. Modulo each of the two, the seven digits are all the remainders, each once.
use Rattle.std.specs.Prelude.{◌≡◌, ℕ, ◌+◌, ◌-◌, ◌%◌, ◌≤◌, ◌==◌, pos, negsuc, if◌then◌else◌, Option, Some, None}
use Rattle.h3_lattice.specs.declared.class.Class.{Class}
use Rattle.h3_lattice.specs.declared.class.Class.TheVariants.{Two, Three}
use Rattle.h3_directions.specs.Eisenstein.{Eisenstein, eisenstein, product_of, sum_of}
use Rattle.h3_directions.specs.Direction.{digit_of, digit_value, direction_of, unit_of, value_of}
use Rattle.h3_directions.specs.declared.direction.Direction.{Direction}

-- class_at r: the class of a resolution, by whether it is odd
abbrev pub class_at : ℕ → Class
class_at r = if r % 2 == 1 then Three else Two

-- multiplier class: 2 - w for odd resolutions, 3 + w for even ones
abbrev pub multiplier : Class → Eisenstein
multiplier Three = eisenstein (pos 2) (negsuc 0)
multiplier Two = eisenstein (pos 3) (pos 1)

-- IsCarry: digit + direction = multiplier * carried number + digit that is left
abbrev pub IsCarry : Class → ℕ → Direction → Eisenstein → ℕ → Type 0
IsCarry class digit direction carried left =
    sum_of (digit_value digit) (unit_of direction) ≡ sum_of (product_of (multiplier class) carried) (digit_value left)

-- IsOnlyCarry: no other carried number and digit of 0 to 6 do so
abbrev pub IsOnlyCarry : Class → ℕ → Direction → Eisenstein → ℕ → Type 0
IsOnlyCarry class digit direction carried left =
    (other : Eisenstein) (rest : ℕ) → rest ≤ 6 → IsCarry class digit direction other rest
    → (other ≡ carried) × (rest ≡ left)

-- ---- the rows of the carry tables, which contracts within the crate alone cite

-- the row of a direction at a resolution of a class
abbrev pub row_of : Class → Direction → ℕ
row_of Two d = digit_of d
row_of Three d = digit_of d + 6

-- the class of the next coarser resolution
abbrev pub coarser_class : Class → Class
coarser_class Two = Three
coarser_class Three = Two

-- the direction that is carried from a resolution of a class, by the row of what is carried: none where
-- that is 0
abbrev pub carried_to : Class → ℕ → Option Direction
carried_to Two row = direction_of (row - 6)
carried_to Three row = direction_of row

-- the row of what is carried from a resolution of a class: 0 for nothing
abbrev pub row_to : Class → Option Direction → ℕ
row_to class None = 0
row_to class (Some d) = row_of (coarser_class class) d

-- a digit and a direction leave a digit of 0 to 6, and carry the direction of a row
pub record IsSumIn (class : Class) (digit : ℕ) (d : Direction) (left row : ℕ) : Type 0 where
  pub small : left ≤ 6
  pub carry : IsCarry class digit d (value_of (carried_to class row)) left
  pub is : row ≡ row_to class (carried_to class row)
