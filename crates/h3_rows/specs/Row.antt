-- Rows, and their fields.
use Rattle.std.specs.Prelude.{ℕ, zero, suc, ◌+◌, ◌-◌, ◌==◌, nat_le, Bool, true, false, not, ◌&&◌, ◌||◌, List, [], ◌∷◌, ◌++◌, length, take, drop, get_or, Option, None, Some, if◌then◌else◌}
use Rattle.std.specs.List.{count_by, list_all}
use Rattle.memchr.specs.Find.{is_byte2}
use Rattle.h3_index.specs.Text.{is_blank, trimmed, without_leading_blanks}
use Rattle.h3_lines.specs.Pieces.{Piece, cut, pieces_of, rows_of}

-- ---- rows

-- are_returns bytes: carriage returns alone
abbrev pub are_returns : List ℕ → Bool
are_returns bytes = list_all (λ b. b == 13) bytes

-- row_body line: the row itself: without the carriage returns at its end
abbrev pub row_body : List ℕ → List ℕ
row_body [] = []
row_body (b ∷ bs) = if are_returns (b ∷ bs) then [] else b ∷ row_body bs

-- returns_of line: the carriage returns at its end
abbrev pub returns_of : List ℕ → List ℕ
returns_of [] = []
returns_of (b ∷ bs) = if are_returns (b ∷ bs) then b ∷ bs else returns_of bs

-- row_ending line: a row's ending: the carriage returns at its end, and a line feed
abbrev pub row_ending : List ℕ → List ℕ
row_ending line = returns_of line ++ 10 ∷ []

-- lacking returns line: what is put behind a last row without a line feed, if the row before it ended in `returns`:
-- nothing, if the row is empty or ends in a carriage return
abbrev pub lacking : List ℕ → List ℕ → List ℕ
lacking returns line = if (length line == 0) || not (length (returns_of line) == 0) then [] else returns

-- lacking_last returns pieces: the same of the last of these pieces; `returns` are those of the row before the first
abbrev pub lacking_last : List ℕ → List Piece → List ℕ
lacking_last returns [] = []
lacking_last returns (p ∷ []) = lacking returns p.0
lacking_last returns (p ∷ q ∷ ps) = lacking_last (returns_of p.0) (q ∷ ps)

-- list_rows quotes list: the rows of a list; a last one that has no ending has that of the row before it
abbrev pub list_rows : Bool → List ℕ → List Piece
list_rows quotes list = rows_of quotes (list ++ lacking_last [] (pieces_of quotes list))

-- next_number number line: the number of the row after the one with this number: line feeds inside quotes count too
abbrev pub next_number : ℕ → List ℕ → ℕ
next_number number line = number + 1 + count_by (λ b. b == 10) line

-- ---- fields

-- has_order_mark bytes: a byte order mark, EF BB BF, is at their beginning
abbrev pub has_order_mark : List ℕ → Bool
has_order_mark bs = nat_le 3 (length bs) && (get_or bs 0 0 == 239) && (get_or bs 1 0 == 187) && (get_or bs 2 0 == 191)

-- without_order_mark bytes: the bytes without a byte order mark at their beginning
abbrev pub without_order_mark : List ℕ → List ℕ
without_order_mark bs = if has_order_mark bs then drop 3 bs else bs

-- read_of number row: what is read of the row with this number: the first row of a list without its byte order mark
abbrev pub read_of : ℕ → List ℕ → List ℕ
read_of number row = if number == 1 then without_order_mark row else row

-- mark_of number row: the byte order mark of a list, if this is its first row and begins with one: it belongs to no row
abbrev pub mark_of : ℕ → List ℕ → List ℕ
mark_of number row = if (number == 1) && has_order_mark row then take 3 row else []

-- unmarked number line: the row with this number and its carriage returns, without that mark
abbrev pub unmarked : ℕ → List ℕ → List ℕ
unmarked number line = read_of number (row_body line) ++ returns_of line

-- is_empty_row number row: the row with this number, without its ending, is empty; the byte order mark before a first
-- row does not count
abbrev pub is_empty_row : ℕ → List ℕ → Bool
is_empty_row number row = length (read_of number row) == 0

-- piece_at k pieces: the piece after k others, if there is one
abbrev pub piece_at : ℕ → List Piece → Option (List ℕ)
piece_at k [] = None
piece_at zero (p ∷ ps) = Some p.0
piece_at (suc k) (p ∷ ps) = piece_at k ps

-- unquoted bytes: without a quote at the beginning and one at the end, if it has both and they are two
abbrev pub unquoted : List ℕ → List ℕ
unquoted bs =
    if nat_le 2 (length bs) && (get_or bs 0 0 == 34)
    && (get_or bs (length bs - 1) 0 == 34) then take (length bs - 2) (drop 1 bs) else bs

-- field_text quotes field: the text of a field: without the blanks at both ends, and then, if quotes count, without a
-- pair of quotes around it
abbrev pub field_text : Bool → List ℕ → List ℕ
field_text quotes field = if quotes then unquoted (trimmed field) else trimmed field

-- opens_well separator start after inside bytes: each quote that opens has only blanks before it in its field, or a
-- quote right before it
--
-- The three that tell what is before the bytes: whether only blanks are before them in their field, whether a quote is
-- right before them, and whether they are inside quotes.
abbrev pub opens_well : ℕ → Bool → Bool → Bool → List ℕ → Bool
opens_well separator start after inside [] = true
opens_well separator start after inside (b ∷ bs) =
    if b == 34 then (if inside || start || after then opens_well separator false true (not inside) bs else false)
    else opens_well separator (not inside && (b == separator || (start && is_blank b))) false inside bs

-- is_padded field: it begins with blanks, and then has a quote
abbrev pub is_padded : List ℕ → Bool
is_padded field = is_blank (get_or field 0 0) && (get_or (without_leading_blanks field) 0 0 == 34)

-- is_simple separator field: neither the separator nor a line feed is in it
abbrev pub is_simple : ℕ → List ℕ → Bool
is_simple separator field = list_all (λ b. not (is_byte2 separator 10 b)) field

-- is_read_alike separator field: many programs take a quote after blanks for text, so a field that begins so has
-- nothing that quotes would keep together
abbrev pub is_read_alike : ℕ → List ℕ → Bool
is_read_alike separator field = not (is_padded field) || is_simple separator field

-- quotes_are_sound separator row: each quote that opens has only blanks before it in its field, or a quote right before
-- it; and a field that begins with blanks and then a quote has neither a separator nor a line feed in it
abbrev pub quotes_are_sound : ℕ → List ℕ → Bool
quotes_are_sound separator row =
    opens_well separator true false false row
    && list_all (λ p. is_read_alike separator p.0) (cut separator true false row)
