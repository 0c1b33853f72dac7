-- What separates the fields of a row, and which of them has the cell.
use Rattle.std.specs.Prelude.{ℕ, ◌==◌, nat_le, Bool, true, not, ◌&&◌, ◌||◌, List, Option, None, Some}
use Rattle.std.specs.List.{list_all}
use Rattle.h3_requests.specs.declared.rows.CellField.{CellField}
use Rattle.h3_requests.specs.declared.rows.CellField.TheVariants.{Number, Column}

-- a letter or a digit of ASCII
abbrev is_letter_or_digit : ℕ → Bool
is_letter_or_digit b = (nat_le 48 b && nat_le b 57) || (nat_le 65 b && nat_le b 90) || (nat_le 97 b && nat_le b 122)

-- is_separator byte: the byte may separate fields: one of ASCII other than NUL, a quote, a line feed, a carriage
-- return, a hyphen, a letter and a digit, since answers have these
abbrev pub is_separator : ℕ → Bool
is_separator b =
    nat_le b 127 && not (is_letter_or_digit b)
    && not ((b == 0) || (b == 34) || (b == 10) || (b == 13) || (b == 45))

-- is_counted field: a field that has a number has one from 1 on
abbrev pub is_counted : CellField → Bool
is_counted (Number n) = not (n == 0)
is_counted (Column name) = true

-- is_counted_if field: the same of a field, if there is one
abbrev pub is_counted_if : Option CellField → Bool
is_counted_if None = true
is_counted_if (Some field) = is_counted field

-- is_plain_field separator bytes: the bytes are one field of rows, with quotes or without: no separator, quote, line
-- feed or carriage return is among them
abbrev pub is_plain_field : ℕ → List ℕ → Bool
is_plain_field separator bytes = list_all (λ b. not ((b == separator) || (b == 34) || (b == 10) || (b == 13))) bytes
