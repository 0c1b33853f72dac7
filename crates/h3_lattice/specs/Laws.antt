-- Laws of turns, and of sums of a digit list and a direction.
use Rattle.std.specs.Prelude.{◌≡◌, ℕ, ◌+◌, ◌%◌, List, map, Option, Some, None, option_map}
use Rattle.std.specs.Int.Digits.{AllBelowBase}
use Rattle.h3_directions.specs.declared.direction.Direction.{Direction}
use Rattle.h3_directions.specs.Direction.{digit_turned, opposite, turned, turned_once}
use Rattle.h3_lattice.specs.Moved.{IsSum}

-- ---- turns

-- TurnsAdd: turns of a direction add up
abbrev pub TurnsAdd : Type 0
TurnsAdd = (m n : ℕ) (d : Direction) → turned m (turned n d) ≡ turned (m + n) d

-- SixTurnsAreNone: six turns of a direction are none
abbrev pub SixTurnsAreNone : Type 0
SixTurnsAreNone = (n : ℕ) (d : Direction) → turned (n % 6) d ≡ turned n d

-- OppositesAreThreeTurns: three turns lead to the opposite direction
abbrev pub OppositesAreThreeTurns : Type 0
OppositesAreThreeTurns = (d : Direction) → opposite d ≡ turned 3 d

-- DigitTurnsAdd: turns of a list of digits add up
abbrev pub DigitTurnsAdd : Type 0
DigitTurnsAdd =
    (m n : ℕ) (ds : List ℕ) → map (digit_turned m) (map (digit_turned n) ds) ≡ map (digit_turned (m + n)) ds

-- SixDigitTurnsAreNone: six of them are none
abbrev pub SixDigitTurnsAreNone : Type 0
SixDigitTurnsAreNone =
    (n : ℕ) (ds : List ℕ) → map (digit_turned (n % 6)) ds ≡ map (digit_turned n) ds

-- NoTurnsKeepDigits: no turns leave the digits as they are
abbrev pub NoTurnsKeepDigits : Type 0
NoTurnsKeepDigits = (ds : List ℕ) → AllBelowBase 7 ds → map (digit_turned 0) ds ≡ ds

-- ---- sums

pub record SomeSum (ds : List ℕ) (d : Direction) : Type 0 where
  pub out : Option Direction
  pub list : List ℕ
  pub is : IsSum ds d out list

-- SumsExist: a list of digits and a direction have a sum
--
-- what is left over the place of the digits is 0 or a unit
abbrev pub SumsExist : Type 0
SumsExist = (ds : List ℕ) (d : Direction) → SomeSum ds d

-- SumsAreUnique: they have one sum
abbrev pub SumsAreUnique : Type 0
SumsAreUnique =
    (ds : List ℕ) (d : Direction) (u v : Option Direction) (es fs : List ℕ) → IsSum ds d u es → IsSum ds d v fs
    → (u ≡ v) × (es ≡ fs)

-- SumsReverse: the opposite direction leads back
abbrev pub SumsReverse : Type 0
SumsReverse =
    (ds : List ℕ) (d : Direction) (u : Option Direction) (es : List ℕ) → AllBelowBase 7 ds → IsSum ds d u es
    → IsSum es (opposite d) (option_map opposite u) ds

-- SumsTurn: the sum of turned ones is the turned sum
abbrev pub SumsTurn : Type 0
SumsTurn =
    (n : ℕ) (ds : List ℕ) (d : Direction) (u : Option Direction) (es : List ℕ) → IsSum ds d u es
    → IsSum (map (digit_turned n) ds) (turned n d) (option_map (turned n) u) (map (digit_turned n) es)

-- which sides of a triangle x, y, z lie across which borders of x's and y's base cells: from x to y, from y to z and
-- from x to z
pub data Triangle : Option Direction → Option Direction → Option Direction → Type 0 where
  all_inside : Triangle None None None
  z_across : (e : Direction) → Triangle None (Some e) (Some e)
  x_across : (e : Direction) → Triangle (Some e) None (Some e)
  y_across : (e : Direction) → Triangle (Some e) (Some (opposite e)) None
  all_across : (e : Direction) → Triangle (Some e) (Some (turned 2 e)) (Some (turned_once e))

pub record IsTriangle (es : List ℕ) (d : Direction) (u v : Option Direction) (fs : List ℕ) : Type 0 where
  pub out : Option Direction
  pub third : IsSum es (turned 2 d) out fs
  pub form : Triangle u out v

-- SumsCloseTriangles: the sums with a direction and with the next one are a step apart
abbrev pub SumsCloseTriangles : Type 0
SumsCloseTriangles =
    (ds : List ℕ) (d : Direction) (u v : Option Direction) (es fs : List ℕ) → IsSum ds d u es
    → IsSum ds (turned_once d) v fs → IsTriangle es d u v fs
