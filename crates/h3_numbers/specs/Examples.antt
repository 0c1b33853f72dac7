-- The definitions at worked texts, by computation.
use Rattle.std.specs.Prelude.{◌≡◌, ℕ, Bool, true, List, [], ◌∷◌, codes, map, None, Some, is_none, pos, neg_ℤ, refl}
use Rattle.std.specs.Fmt.{digits}
use Rattle.std.specs.List.{filter_map, list_all}
use Rattle.h3_numbers.specs.Reading.{parsed_decimal, parsed_number}
use Rattle.h3_numbers.specs.Sum.{total}
use Rattle.h3_numbers.specs.Writing.{sum_text}

-- ---- texts that are numbers

-- `1.50`, `2`, `-0.5`, `+7`
read : map parsed_number (codes "1.50" ∷ codes "2" ∷ codes "-0.5" ∷ codes "+7" ∷ [])
    ≡ Some (pos 1500000000000000000) ∷ Some (pos 2000000000000000000) ∷ Some (neg_ℤ (pos 500000000000000000))
    ∷ Some (pos 7000000000000000000) ∷ []
read = refl

-- 0 with any sign, and with zeros
zeros : map parsed_number (codes "0" ∷ codes "+0" ∷ codes "-0" ∷ codes "-0.0" ∷ codes "000.000" ∷ [])
    ≡ Some (pos 0) ∷ Some (pos 0) ∷ Some (pos 0) ∷ Some (pos 0) ∷ Some (pos 0) ∷ []
zeros = refl

-- eighteen digits before the point and after it
eighteen : parsed_number (codes "-123456789012345678.987654321098765432")
    ≡ Some (neg_ℤ (pos 123456789012345678987654321098765432))
eighteen = refl

smallest : parsed_number (codes "0.000000000000000001") ≡ Some (pos 1)
smallest = refl

-- ---- texts that are not

abbrev are_refused : List (List ℕ) → Bool
are_refused texts = list_all (λ text. is_none (parsed_number text)) texts

-- nineteen digits before the point, or after it
nineteen : are_refused (codes "1234567890123456789" ∷ codes "0000000000000000001" ∷ codes "1.0000000000000000000" ∷ [])
    ≡ true
nineteen = refl

-- no digit before the point, or after it, or two points
points : are_refused (codes "." ∷ codes "1." ∷ codes ".5" ∷ codes "-." ∷ codes "1.2.3" ∷ codes "1..2" ∷ []) ≡ true
points = refl

-- a sign alone, two of them, or one behind a digit
signs : are_refused (codes "-" ∷ codes "+" ∷ codes "-+1" ∷ codes "--1" ∷ codes "1-" ∷ codes "1.-5" ∷ []) ≡ true
signs = refl

others : are_refused (codes "" ∷ codes "1e3" ∷ codes "0x1" ∷ codes " 1" ∷ codes "1 " ∷ codes "1,5" ∷ codes "inf" ∷ [])
    ≡ true
others = refl

-- ---- sums

-- the text of the sum of the numbers in a column
abbrev sum_of : List (List ℕ) → List ℕ
sum_of texts = sum_text (total (filter_map parsed_number texts))

no_numbers : sum_of [] ≡ codes "0"
unfolding digits
no_numbers = refl

-- each by itself: without zeros at the end, and no `.` if it is whole
alone : map (λ text. sum_of (text ∷ [])) (codes "1.50" ∷ codes "2" ∷ codes "-0.5" ∷ codes "-007.010" ∷ [])
    ≡ codes "1.5" ∷ codes "2" ∷ codes "-0.5" ∷ codes "-7.01" ∷ []
unfolding digits
alone = refl

tenths : sum_of (codes "0.1" ∷ codes "0.2" ∷ codes "-0.3" ∷ []) ≡ codes "0"
unfolding digits
tenths = refl

amounts : sum_of (codes "1.50" ∷ codes "2" ∷ []) ≡ codes "3.5"
unfolding digits
amounts = refl

zero_alone : map (λ text. sum_of (text ∷ [])) (codes "-0.0" ∷ codes "+0" ∷ []) ≡ codes "0" ∷ codes "0" ∷ []
unfolding digits
zero_alone = refl

-- what the fractions carry, up and down
carried_up : sum_of (codes "0.999999999999999999" ∷ codes "0.000000000000000001" ∷ []) ≡ codes "1"
unfolding digits
carried_up = refl

carried_down : sum_of (codes "5" ∷ codes "-0.000000000000000001" ∷ []) ≡ codes "4.999999999999999999"
unfolding digits
carried_down = refl

below_zero : map sum_of ((codes "-5" ∷ codes "0.75" ∷ []) ∷ (codes "-0.5" ∷ codes "-0.75" ∷ []) ∷ [])
    ≡ codes "-4.25" ∷ codes "-1.25" ∷ []
unfolding digits
below_zero = refl

-- a sum may have more than eighteen digits before the point, and then is no number, but a decimal of any length
long : sum_of (codes "999999999999999999.5" ∷ codes "999999999999999999.5" ∷ []) ≡ codes "1999999999999999999"
unfolding digits
long = refl

long_read : parsed_number (codes "1999999999999999999") ≡ None
long_read = refl

long_decimal : parsed_decimal (codes "-1999999999999999999.25")
    ≡ Some (neg_ℤ (pos 1999999999999999999250000000000000000))
long_decimal = refl
