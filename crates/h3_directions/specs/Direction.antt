-- The six directions, the digits that stand for them, and turns.
--
-- H3's digits, as its enumeration `Direction` names them: 0 is the centre, and 1 to 6 are the axes K, J, JK, I, IK and
-- IJ. As Eisenstein integers these are the six units. One turn, 60 degrees counter-clockwise as H3's `_rotate60ccw`, is
-- the product with 1 + w. It leaves the digit 0 as it is.
use Rattle.std.specs.Prelude.{◌≡◌, ℕ, zero, suc, pos, negsuc, ◌==◌, List, [], ◌∷◌, map, Option, Some, None, if◌then◌else◌, option_map}
use Rattle.h3_directions.specs.declared.direction.Direction.{Direction}
use Rattle.h3_directions.specs.declared.direction.Direction.TheVariants.{K, J, JK, I, IK, IJ}
use Rattle.h3_directions.specs.Eisenstein.{Eisenstein, eisenstein, one, product_of, zero_point}

-- digit_of d: H3's digit of a direction
abbrev pub digit_of : Direction → ℕ
digit_of K = 1
digit_of J = 2
digit_of JK = 3
digit_of I = 4
digit_of IK = 5
digit_of IJ = 6

-- all of them, in the order of their digits
abbrev pub directions : List Direction
directions = K ∷ J ∷ JK ∷ I ∷ IK ∷ IJ ∷ []

-- direction_of n: the direction of a digit, if it has one
--
-- the direction that a digit stands for: none for 0, nor above 6
abbrev pub direction_of : ℕ → Option Direction
direction_of d =
    if d == 1 then Some K
    else (if d == 2 then Some J
    else (if d == 3 then Some JK
    else (if d == 4 then Some I
    else (if d == 5 then Some IK
    else (if d == 6 then Some IJ
    else None)))))

-- unit_of d: the unit of a direction, an Eisenstein integer
--
-- the unit of a direction: K = -1 - w, J = w, JK = -1, I = 1, IK = -w, IJ = 1 + w
abbrev pub unit_of : Direction → Eisenstein
unit_of K = eisenstein (negsuc 0) (negsuc 0)
unit_of J = eisenstein (pos 0) (pos 1)
unit_of JK = eisenstein (negsuc 0) (pos 0)
unit_of I = eisenstein (pos 1) (pos 0)
unit_of IK = eisenstein (pos 0) (negsuc 0)
unit_of IJ = eisenstein (pos 1) (pos 1)

-- value_of d: the same, or 0 where there is no direction
abbrev pub value_of : Option Direction → Eisenstein
value_of None = zero_point
value_of (Some d) = unit_of d

-- the Eisenstein integer of a digit
abbrev pub digit_value : ℕ → Eisenstein
digit_value digit = value_of (direction_of digit)

-- ---- turns

-- turning n: (1 + w)^n
abbrev pub turning : ℕ → Eisenstein
turning zero = one
turning (suc n) = product_of (eisenstein (pos 1) (pos 1)) (turning n)

-- turned_once d: a direction turned once, by a sixth
abbrev pub turned_once : Direction → Direction
turned_once K = IK
turned_once IK = I
turned_once I = IJ
turned_once IJ = J
turned_once J = JK
turned_once JK = K

-- turned n d: a direction turned n times
abbrev pub turned : ℕ → Direction → Direction
turned zero d = d
turned (suc n) d = turned_once (turned n d)

-- the digit of a direction, or 0 where there is none
abbrev pub digit_or_zero : Option Direction → ℕ
digit_or_zero None = 0
digit_or_zero (Some d) = digit_of d

-- digit_turned n d: a digit turned n times
abbrev pub digit_turned : ℕ → ℕ → ℕ
digit_turned n digit = digit_or_zero (option_map (turned n) (direction_of digit))

-- opposite d: the direction that leads back
abbrev pub opposite : Direction → Direction
opposite K = IJ
opposite J = IK
opposite JK = I
opposite I = JK
opposite IK = J
opposite IJ = K

-- AreTurned n ds es: each digit of es is that of ds multiplied by (1 + w)^n
abbrev pub AreTurned : ℕ → List ℕ → List ℕ → Type 0
AreTurned n ds es = map digit_value es ≡ map (λ d. product_of (turning n) (digit_value d)) ds
