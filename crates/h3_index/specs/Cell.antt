-- Cells, and the numbers that stand for them.
--
-- H3's index bit layout: from the highest bit, 1 reserved bit (0), 4 bits mode (1 for a cell), 3 bits that depend on
-- the mode (0 for a cell), 4 bits resolution, 7 bits base cell, and fifteen digits of 3 bits, that of resolution 1
-- first. A digit above the resolution is 7. The twelve pentagon base cells have a child of digit 1 (K) deleted: in
-- them the first digit that is not 0 is never 1.
use Rattle.std.specs.Prelude.{ℕ, ◌≢◌, ◌+◌, ◌-◌, ◌*◌, ◌%◌, ◌^◌, ◌<◌, ◌==◌, List, [], ◌∷◌, ◌++◌, length, replicate, Bool, ◌&&◌, IsTrue, if◌then◌else◌}
use Rattle.std.specs.List.{list_any}
use Rattle.std.specs.Int.Digits.{number_from_digits, AllBelowBase}

-- Address: a base cell and a list of digits, one for each resolution from 1 up to the cell's own
pub record Address : Type 0 where
  pub base : ℕ
  pub digits : List ℕ

-- resolution c: how many digits c has
abbrev pub resolution : Address → ℕ
resolution c = length c.digits

-- the twelve base cells that are pentagons
abbrev pub pentagon_bases : List ℕ
pentagon_bases = 4 ∷ 14 ∷ 24 ∷ 38 ∷ 49 ∷ 58 ∷ 63 ∷ 72 ∷ 83 ∷ 97 ∷ 107 ∷ 117 ∷ []

-- is_pentagon_base b: b is one of the twelve base cells that are pentagons
abbrev pub is_pentagon_base : ℕ → Bool
is_pentagon_base b = list_any (λ p. b == p) pentagon_bases

-- the first digit that is not 0, or 0 where there is none
abbrev pub leading : List ℕ → ℕ
leading [] = 0
leading (d ∷ ds) = if d == 0 then leading ds else d

-- IsCell c: the base cell is 0 to 121, there are at most 15 digits, each 0 to 6, and in a pentagon base cell the first
-- digit that is not 0 is not 1
pub record IsCell (c : Address) : Type 0 where
  pub base_small : c.base < 122
  pub coarse : resolution c < 16
  pub digits_small : AllBelowBase 7 c.digits
  pub not_deleted : IsTrue (is_pentagon_base c.base) → leading c.digits ≢ 1

-- is_pentagon c: the base cell is a pentagon and all digits are 0
abbrev pub is_pentagon : Address → Bool
is_pentagon c = is_pentagon_base c.base && leading c.digits == 0

-- is_class_iii c: the resolution is odd
abbrev pub is_class_iii : Address → Bool
is_class_iii c = resolution c % 2 == 1

-- the fifteen digits of an index: 7 above the resolution
abbrev pub padded : List ℕ → List ℕ
padded ds = ds ++ replicate (15 - length ds) 7

-- number_of c: 2^59 + resolution * 2^52 + base cell * 2^45 + the fifteen octal digits, those above the resolution being
-- 7
unfoldable pub number_of : Address → ℕ
number_of c =
    2 ^ 59 + resolution c * 2 ^ 52 + c.base * 2 ^ 45 + number_from_digits 8 (padded c.digits)
