-- The texts of indexes.
--
-- Written: lower-case hexadecimal without leading zeros, `0` for 0. Read: spaces, tabs and carriage returns at both
-- ends are dropped, then an optional `0x` or `0X`; what is left is 1 to 16 hexadecimal digits of either case.
use Rattle.std.specs.Prelude.{ℕ, ◌==◌, nat_lt, nat_le, nat_eq, List, [], ◌∷◌, length, drop, map, reverse, Bool, ◌&&◌, ◌||◌, Option, Some, None, codes, if◌then◌else◌}
use Rattle.std.specs.List.{starts_with, list_all}
use Rattle.std.specs.Char.{digit_char, is_digit}
use Rattle.std.specs.Str.Parse.{digits_value}
use Rattle.h3_index.specs.Digits.{last_digits}

-- the digits from the first that is not 0 on, or one 0 where all are 0
abbrev pub without_leading_zeros : List ℕ → List ℕ
without_leading_zeros [] = 0 ∷ []
without_leading_zeros (d ∷ ds) = if d == 0 then without_leading_zeros ds else d ∷ ds

-- text_of n: the number in lower-case hexadecimal without leading zeros, `0` for 0
unfoldable pub text_of : ℕ → List ℕ
text_of v = map digit_char (without_leading_zeros (last_digits 16 16 v))

-- a space, a tab or a carriage return
abbrev pub is_blank : ℕ → Bool
is_blank b = b == 32 || b == 9 || b == 13

abbrev pub without_leading_blanks : List ℕ → List ℕ
without_leading_blanks [] = []
without_leading_blanks (b ∷ bs) = if is_blank b then without_leading_blanks bs else b ∷ bs

abbrev pub without_trailing_blanks : List ℕ → List ℕ
without_trailing_blanks bs = reverse (without_leading_blanks (reverse bs))

-- trimmed bytes: the bytes without the spaces, tabs and carriage returns at both ends
abbrev pub trimmed : List ℕ → List ℕ
trimmed bs = without_trailing_blanks (without_leading_blanks bs)

-- without a `0x` or `0X` in front
abbrev pub without_prefix : List ℕ → List ℕ
without_prefix bs = if starts_with nat_eq bs (codes "0x") || starts_with nat_eq bs (codes "0X") then drop 2 bs else bs

-- 1 to 16 hexadecimal digits
abbrev pub is_hexadecimal : List ℕ → Bool
is_hexadecimal ds = nat_lt 0 (length ds) && nat_le (length ds) 16 && list_all (λ d. is_digit d 16) ds

-- parsed_number ds: the number of 1 to 16 hexadecimal digits of either case; none for other bytes
abbrev pub parsed_number : List ℕ → Option ℕ
parsed_number ds = if is_hexadecimal ds then Some (digits_value 16 ds) else None

-- parsed_index bytes: the value, if the bytes, trimmed and without one `0x` or `0X`, are 1 to 16 hexadecimal digits of
-- either case
unfoldable pub parsed_index : List ℕ → Option ℕ
parsed_index bs = parsed_number (without_prefix (trimmed bs))

-- `0` to `9` or `a` to `f`
abbrev pub is_lower_digit : ℕ → Bool
is_lower_digit b = (nat_le 48 b && nat_le b 57) || (nat_le 97 b && nat_le b 102)

-- plain_index bytes: the number of 8 to 16 hexadecimal digits in lower case, with nothing beside them; none for other
-- bytes
abbrev pub plain_index : List ℕ → Option ℕ
plain_index bs =
    if nat_le 8 (length bs) && nat_le (length bs) 16 && list_all is_lower_digit bs then Some (digits_value 16 bs)
    else None
