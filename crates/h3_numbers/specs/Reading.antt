-- Texts of numbers. The value of a number is an integer: how many units of 10^-18 it has.
use Rattle.std.specs.Prelude.{ℕ, ◌+◌, ◌-◌, ◌*◌, ◌^◌, ◌==◌, nat_le, nat_lt, Bool, true, false, ◌&&◌, ◌||◌, List, [], ◌∷◌, length, drop, slice_index, Option, None, Some, option_map, if◌then◌else◌, ℤ, pos, neg_ℤ}
use Rattle.std.specs.Str.{all_ascii_digits}
use Rattle.std.specs.Str.Parse.{digits_value}

-- ---- digits

-- are_digits bytes: one decimal digit or more, and nothing else
abbrev pub are_digits : List ℕ → Bool
are_digits bytes = nat_lt 0 (length bytes) && all_ascii_digits bytes

-- are_few_digits bytes: one to eighteen digits
abbrev pub are_few_digits : List ℕ → Bool
are_few_digits bytes = are_digits bytes && nat_le (length bytes) 18

-- fraction_units digits: the value of digits after a point, in units of 10^-18
abbrev pub fraction_units : List ℕ → ℕ
fraction_units digits = digits_value 10 digits * 10 ^ (18 - length digits)

-- ---- the parts of a text

-- is_negative text: the first byte is a `-`
abbrev pub is_negative : List ℕ → Bool
is_negative text = slice_index text 0 == 45

-- without_sign text: the text without a `-` or `+` in front
abbrev pub without_sign : List ℕ → List ℕ
without_sign text = if (slice_index text 0 == 45) || (slice_index text 0 == 43) then drop 1 text else text

-- before_point bytes: the bytes before the first point
abbrev pub before_point : List ℕ → List ℕ
before_point [] = []
before_point (b ∷ bs) = if b == 46 then [] else b ∷ before_point bs

-- after_point bytes: the bytes after the first point, if there is one
abbrev pub after_point : List ℕ → Option (List ℕ)
after_point [] = None
after_point (b ∷ bs) = if b == 46 then Some bs else after_point bs

-- ---- what a text means

-- size_units whole fraction: the value, in units of 10^-18, of one digit or more, and of one to eighteen after a point
abbrev pub size_units : List ℕ → Option (List ℕ) → Option ℕ
size_units whole None = if are_digits whole then Some (digits_value 10 whole * 10 ^ 18) else None
size_units whole (Some fraction) =
    if are_digits whole && are_few_digits fraction
    then Some (digits_value 10 whole * 10 ^ 18 + fraction_units fraction) else None

-- signed negative size: the integer of this size, negative or not
abbrev pub signed : Bool → ℕ → ℤ
signed true size = neg_ℤ (pos size)
signed false size = pos size

-- parsed_decimal text: the value, in units of 10^-18, of an optional sign, one digit or more, and optionally a point
-- and one to eighteen digits; none of any other text
abbrev pub parsed_decimal : List ℕ → Option ℤ
parsed_decimal text =
    let bytes = without_sign text in
    option_map (signed (is_negative text)) (size_units (before_point bytes) (after_point bytes))

-- parsed_number text: the same, with at most eighteen digits before the point
abbrev pub parsed_number : List ℕ → Option ℤ
parsed_number text = if nat_le (length (before_point (without_sign text))) 18 then parsed_decimal text else None
