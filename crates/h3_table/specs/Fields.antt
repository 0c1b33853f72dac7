-- The records of a table file, and the numbers in their fields.
use Rattle.std.specs.Prelude.{ℕ, ◌+◌, ◌-◌, ◌*◌, Bool, true, false, ◌==◌, ◌&&◌, nat_lt, nat_le, if◌then◌else◌, List, [], ◌∷◌, length, Option, Some, None, option_map, bytes_eq}
use Rattle.csv.specs.Reading.{default_config, records, strip_bom}
use Rattle.std.specs.Char.{is_ascii_digit}

-- a record is a list of fields, and a field a list of bytes
abbrev pub Record : Type 0
Record = List (List ℕ)

-- records_of bytes: the records of a file's bytes, without one byte order mark in front, by `csv`'s own rule
abbrev pub records_of : List ℕ → List Record
records_of bytes = records default_config (strip_bom bytes)

-- two records have the same fields
unfoldable pub same_fields : Record → Record → Bool
same_fields [] [] = true
same_fields [] (g ∷ gs) = false
same_fields (f ∷ fs) [] = false
same_fields (f ∷ fs) (g ∷ gs) = bytes_eq f g && same_fields fs gs

-- ---- numbers

-- the number of decimal digits, after those of the number n
unfoldable pub number_from : ℕ → List ℕ → Option ℕ
number_from n [] = Some n
number_from n (c ∷ rest) = if is_ascii_digit c then number_from (n * 10 + (c - 48)) rest else None

-- the number in a field of 1 to 3 digits
abbrev pub number_in : List ℕ → Option ℕ
number_in field = if nat_lt 0 (length field) && nat_le (length field) 3 then number_from 0 field else None

abbrev pub with_number : Option ℕ → Option (List ℕ) → Option (List ℕ)
with_number None numbers = None
with_number (Some n) numbers = option_map (λ ns. n ∷ ns) numbers

-- the numbers in all fields, where each has one
unfoldable pub all_numbers : Record → Option (List ℕ)
all_numbers [] = Some []
all_numbers (field ∷ rest) = with_number (number_in field) (all_numbers rest)

-- numbers_in n r: the numbers of a record with n fields of 1 to 3 digits each
abbrev pub numbers_in : ℕ → Record → Option (List ℕ)
numbers_in width r = if length r == width then all_numbers r else None
