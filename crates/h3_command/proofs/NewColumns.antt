-- What stands in the new column of rows.
use Rattle.std.proofs.Common.{ℤ, ◌≡◌, ℕ, zero, suc, ◌/◌, ◌%◌, ◌<◌, ◌==◌, nat_le, Bool, true, false, not, ◌&&◌, ◌||◌, List, [], ◌∷◌, ◌++◌, All, map, codes, decimal, get_or, string_bytes, unwrap_or, eq-eqb, subst, Option, None, Some, Result, Ok, Err, if◌then◌else◌, sym, ap, ◌∙◌, refl, append_assoc, append-nil, arith, inl, inr}
use Rattle.std.proofs.lemmas.Bool.Decides.{nat_tests}
use Rattle.std.proofs.lemmas.List.Elements.{All-cons, All-head, All-map, All-nil, All-tail}
use Rattle.std.proofs.lemmas.List.Folds.{flat_map-map, list_all-append, list_all-map}
use Rattle.std.proofs.lemmas.Nat.{mod_below}
use Rattle.std.specs.Char.{digit_char}
use Rattle.std.specs.Fmt.{digit_glyph, digits, digits_onto}
use Rattle.std.specs.List.{flat_map, list_all}
use Rattle.h3_index.specs.Cell.{Address, number_of}
use Rattle.h3_index.specs.Digits.{last_digits}
use Rattle.h3_index.specs.Edge.{DirectedEdge, edge_number}
use Rattle.h3_index.specs.Error.{error_name}
use Rattle.h3_index.specs.declared.error.H3Error.{H3Error}
use Rattle.h3_index.specs.declared.error.H3Error.TheVariants.{Failed, Domain, ResDomain, CellInvalid, DirEdgeInvalid, Pentagon, DuplicateInput, NotNeighbors, ResMismatch, MemoryAlloc}
use Rattle.h3_table.specs.Links.{Links}
use Rattle.h3_functions.specs.Edges.{are_neighbor_cells, cells_to_directed_edge, get_directed_edge_destination, origin_to_directed_edges, pair_of}
use Rattle.h3_functions.specs.Hierarchy.{cell_to_children}
use Rattle.h3_functions.specs.Inspection.{for_value}
use Rattle.h3_functions.specs.Outcome.{outcome_of}
use Rattle.h3_functions.specs.Sets.{compact_cells, uncompact_cells}
use Rattle.h3_functions.specs.Walks.{grid_disk_distances_unsafe, grid_disk_unsafe, grid_ring_unsafe}
use Rattle.h3_set.specs.Compacted.{compacted}
use Rattle.h3_functions.specs.declared.outcome.Outcome.{Outcome}
use Rattle.h3_functions.specs.declared.outcome.Outcome.TheVariants.{Cell, Count, Edges, Number, Truth}
use Rattle.h3_lines.specs.List.{itself}
use Rattle.h3_lines.specs.Answer.{Answer, answer_or_error, cell_line, cell_lines, edge_line, edge_lines, number_line, printed, ring_line, ring_line_by, truth_line, walked, written, zone_line, zone_text}
use Rattle.h3_lines.specs.RunError.{row_error_name}
use Rattle.h3_lines.specs.declared.run_error.RowError.{RowError}
use Rattle.h3_lines.specs.declared.run_error.RowError.TheVariants as of_row
use Rattle.h3_requests.specs.declared.command.IndexFunction.{IndexFunction}
use Rattle.h3_requests.specs.declared.command.Command.TheVariants as command
use Rattle.h3_rows.specs.Laws.{FieldsAreKept, PairsAreKept}
use Rattle.h3_lines.specs.Pieces.{Piece, Uncut, cut, inside_after, is_uncut, turned, with_first}
use Rattle.h3_rows.specs.RowsAnswer.{each_with, row_with}
use Rattle.h3_index.specs.Text.{is_blank, text_of, without_leading_blanks, without_leading_zeros}
use Rattle.h3_requests.specs.declared.rows.RowOptions.{RowOptions}
use Rattle.h3_rows.specs.Areas.{EntriesAreFields, IsOneField, NamesAreFields, area_cells, area_names, title_after, title_with}
use Rattle.h3_rows.specs.Row.{is_read_alike, opens_well, quotes_are_sound}
use Rattle.h3_rows.specs.Named.{Entry, names_table}
use Rattle.h3_regions.specs.Areas.{areas_of}
use Rattle.h3_requests.specs.Rows.{is_plain_field, is_separator}
use Rattle.h3_requests.specs.declared.rows.AreaOptions.{AreaOptions}
use Rattle.h3_requests.specs.declared.rows.CellField.{CellField}
use Rattle.h3_requests.specs.declared.rows.Tables.{Tables}
use Rattle.h3_lines.specs.declared.run_error.AnswerError.{AnswerError}
use Rattle.h3_command.specs.Answer.{ListRequest, answer_for, area_counts_request, by_request, combined_request, counts_request, parents_request, shown, summed, with_table, zone_counts_request, zones_request}
use Rattle.h3_command.specs.Answer.ListRequest.{of_numbered, of_whole}
use Rattle.h3_command.specs.Areas.{area_answer, areas_of_file, entries_of_table, judged_areas, name_lines, names_or, overlap_error, unless_overlapping}
use Rattle.h3_command.specs.Files.{cell_to_zone, is_covered_cell}
use Rattle.h3_command.specs.Required.{cell_given, edge_given, index_given}
use Rattle.h3_command.specs.LongAnswers.{between_parts, whole_walk}
use Rattle.h3_command.specs.NewColumns.{AnswersAreWords, AnswersBy, AnswersEach, AreAnswerLines, AreLinesOf, ErrorNamesAreFields, ErrorNamesAreKept, IsField, IsPairOfWords, IsWord, IsZoneLine, NamesAreKept, RowsStandOnce, TitlesAreFields, WordPairsAreKept, WordPairsAreUncut, WordsAreFields, WordsAreKept, is_lower_or_digit, is_plain}
use Rattle.h3_command.specs.Rows.{list_form}
use Rattle.h3_regions.specs.Algebra.{difference, intersection}
use Rattle.h3_command.specs.TableLists.{destination_of}

-- ---- words

more_words : (b : ℕ) (text : List ℕ) → is_lower_or_digit b ≡ true → IsWord text → IsWord (b ∷ text)
more_words b text p q = rw (p, q) refl

glyph_is : (d : ℕ) → d < 10 → is_lower_or_digit (digit_glyph false d) ≡ true
glyph_is d small = grind (arith, nat_tests)

digit_is : (d : ℕ) → d < 16 → is_lower_or_digit (digit_char d) ≡ true
digit_is d small = grind (arith, nat_tests)

onto_is : (k n : ℕ) (acc : List ℕ) → IsWord acc → IsWord (digits_onto k 10 false n acc)
onto_is zero n acc rest = rest
onto_is (suc k) n acc rest =
    let more : IsWord (digit_glyph false (n % 10) ∷ acc) =
    more_words (digit_glyph false (n % 10)) acc (glyph_is (n % 10) (mod_below n 10 (omega arith))) rest in
    let either : (t : Bool) → IsWord (if t then digit_glyph false (n % 10)
    ∷ acc else digits_onto k 10 false (n / 10) (digit_glyph false (n % 10) ∷ acc)) =
    λ t. elim t as (λ t. IsWord (if t then digit_glyph false (n % 10)
    ∷ acc else digits_onto k 10 false (n / 10) (digit_glyph false (n % 10) ∷ acc)))
    [ true ↦ more | false ↦ onto_is k (n / 10) (digit_glyph false (n % 10) ∷ acc) more ] in
    either (n / 10 == 0)

decimal_is : (n : ℕ) → IsWord (decimal n)
unfolding digits
decimal_is n = onto_is 64 n [] refl

last_are : (count m : ℕ) → list_all (λ d. is_lower_or_digit (digit_char d)) (last_digits 16 count m) ≡ true
last_are zero m = refl
last_are (suc count) m =
    list_all-append (λ d. is_lower_or_digit (digit_char d)) (last_digits 16 count (m / 16)) (m % 16 ∷ [])
    ∙ rw (last_are count (m / 16), digit_is (m % 16) (mod_below m 16 (omega arith))) refl

leading_are : (p : ℕ → Bool) (ds : List ℕ) → p 0 ≡ true → list_all p ds ≡ true
    → list_all p (without_leading_zeros ds) ≡ true
leading_are p [] first all = rw first refl
leading_are p (d ∷ ds) first all =
    let split : (x y : Bool) → (x && y) ≡ true → y ≡ true =
    λ x y. elim x as (λ x. (x && y) ≡ true → y ≡ true) [ true ↦ λ h. h | false ↦ λ h. absurd (cc) ] in
    let either : (t : Bool) → list_all p (if t then without_leading_zeros ds else d ∷ ds) ≡ true =
    λ t. elim t as (λ t. list_all p (if t then without_leading_zeros ds else d ∷ ds) ≡ true)
    [ true ↦ leading_are p ds first (split (p d) (list_all p ds) all) | false ↦ all ] in
    either (d == 0)

text_is : (n : ℕ) → IsWord (text_of n)
unfolding text_of
text_is n =
    list_all-map is_lower_or_digit digit_char (without_leading_zeros (last_digits 16 16 n))
    ∙ leading_are (λ d. is_lower_or_digit (digit_char d)) (last_digits 16 16 n) refl (last_are 16 n)

zone_is : (zone : Option Address) → IsWord (zone_text zone)
zone_is None = refl
zone_is (Some zone) = text_is (number_of zone)

-- ---- lines

one_line : (Is : List ℕ → Type 0) (text : List ℕ) → Is text → AreLinesOf Is (text ++ 10 ∷ [])
one_line Is text is = (text ∷ [], All-cons Is text [] is (All-nil Is), sym (append-nil (text ++ 10 ∷ [])))

no_line : (Is : List ℕ → Type 0) → AreLinesOf Is []
no_line Is = ([], All-nil Is, refl)

all_are : {A : Type 0} (P : A → Type 0) (xs : List A) → ((x : A) → P x) → All P xs
all_are P [] each = All-nil P
all_are P (x ∷ xs) each = All-cons P x xs (each x) (all_are P xs each)

lines_are : {A : Type 0} (Is : List ℕ → Type 0) (word : A → List ℕ) (items : List A) → ((item : A) → Is (word item))
    → AreLinesOf Is (flat_map (λ item. word item ++ 10 ∷ []) items)
lines_are Is word items each = (
  map word items,
  All-map Is word items (all_are (λ item. Is (word item)) items each),
  sym (flat_map-map (λ line. line ++ 10 ∷ []) word items),
)

truth_lines : (b : Bool) → AreLinesOf IsWord (truth_line b)
truth_lines true = one_line IsWord (codes "true") refl
truth_lines false = one_line IsWord (codes "false") refl

number_lines : (n : ℕ) → AreLinesOf IsWord (number_line n)
number_lines n = one_line IsWord (decimal n) (decimal_is n)

zone_lines : (zone : Option Address) → AreLinesOf IsWord (zone_line zone)
zone_lines zone = one_line IsWord (zone_text zone) (zone_is zone)

lines_of_cells : (cells : List Address) → AreLinesOf IsWord (cell_lines cells)
lines_of_cells cells = lines_are IsWord (λ c. text_of (number_of c)) cells (λ c. text_is (number_of c))

line_of_cell : (c : Address) → AreLinesOf IsWord (cell_line c)
line_of_cell c = one_line IsWord (text_of (number_of c)) (text_is (number_of c))

lines_of_edges : (edges : List DirectedEdge) → AreLinesOf IsWord (edge_lines edges)
lines_of_edges edges = lines_are IsWord (λ e. text_of (edge_number e)) edges (λ e. text_is (edge_number e))

abbrev pair_word : ℕ → Address × ℕ → List ℕ
pair_word between item = text_of (number_of item.0) ++ (between ∷ decimal item.1)

lines_of_rings : (between : ℕ) (items : List (Address × ℕ))
    → AreLinesOf (IsPairOfWords between) (flat_map (ring_line_by between) items)
lines_of_rings between items =
    lines_are (IsPairOfWords between) (pair_word between) items
    (λ item. (text_of (number_of item.0), decimal item.1, text_is (number_of item.0), decimal_is item.1, refl))

-- ---- answers

answer_lines : {A : Type 0} (Is : List ℕ → Type 0) (about : A → Answer) (value : Result A H3Error)
    → ((v : A) → AreAnswerLines Is (about v)) → AreAnswerLines Is (answer_or_error about value)
answer_lines Is about (Ok v) each = each v
answer_lines Is about (Err e) each = (no_line Is, inr (e, refl))

printed_lines : {A : Type 0} (Is : List ℕ → Type 0) (text : A → List ℕ) (value : Result A H3Error)
    → ((v : A) → AreLinesOf Is (text v)) → AreAnswerLines Is (printed text value)
printed_lines Is text (Ok v) each = (each v, inl refl)
printed_lines Is text (Err e) each = (no_line Is, inr (e, refl))

shown_lines : (outcome : Outcome) → AreAnswerLines IsWord (shown outcome)
shown_lines (Truth is) = printed_lines IsWord truth_line is truth_lines
shown_lines (Number number) = printed_lines IsWord number_line number number_lines
shown_lines (Count count) = printed_lines IsWord number_line count number_lines
shown_lines (Cell cell) = printed_lines IsWord cell_line cell line_of_cell
shown_lines (Edges index) = printed_lines IsWord edge_lines (origin_to_directed_edges index) lines_of_edges

lines_for : (function : IndexFunction) (index : Option ℕ) → AreAnswerLines IsWord (answer_for function index)
lines_for function index =
    answer_lines IsWord (λ h. shown (outcome_of function h)) (index_given index)
    (λ h. shown_lines (outcome_of function h))

-- what is asked of a value and a table alone is no list
one_query : {A : Type 0} (Is : Answer → Type 0) (about : A → Links → Answer) (value : Result A H3Error)
    → AnswersBy Is (with_table about value)
one_query Is about (Ok v) = tt
one_query Is about (Err e) = tt

-- ---- fields

both : (x y : Bool) → (x && y) ≡ true → (x ≡ true) × (y ≡ true)
both true y h = (refl, h)
both false y h = absurd (cc)

apart : (separator b : ℕ) → is_separator separator ≡ true → is_lower_or_digit b ≡ true → (b == separator) ≡ false
apart separator b p q = grind (arith, nat_tests)

no_feed : (b : ℕ) → is_lower_or_digit b ≡ true → ((b == 10) ≡ false) × ((b == 34) ≡ false)
no_feed b q = (grind (arith, nat_tests), grind (arith, nat_tests))

no_quote : (quotes : Bool) → (quotes && false) ≡ false
no_quote true = refl
no_quote false = refl

-- nor is the byte that separates a quote
pub no_quote_separates : (separator : ℕ) → is_separator separator ≡ true → (34 == separator) ≡ false
no_quote_separates separator serves = grind (arith, nat_tests)

-- texts of bytes that pass a test, none of which is a quote, are not cut by a byte that does not
fields : (p : ℕ → Bool) (separator : ℕ) (quotes : Bool) (text : List ℕ) → ((b : ℕ) → p b ≡ true → (b == 34) ≡ false)
    → ((b : ℕ) → p b ≡ true → (b == separator) ≡ false) → list_all p text ≡ true
    → (is_uncut separator quotes false text ≡ true) × (inside_after quotes false text ≡ false)
fields p separator quotes [] free other all = (refl, refl)
fields p separator quotes (b ∷ bs) free other all =
    let (first, more) = both (p b) (list_all p bs) all in
    let calm : turned quotes false b ≡ false = rw (free b first, no_quote quotes) refl in
    let (uncut, closed) = fields p separator quotes bs free other more in
    (rw (other b first, calm) uncut, rw calm closed)

-- a byte that passes the test is not the separator, a quote, a line feed or a carriage return
abbrev IsPlainBy : (ℕ → Bool) → ℕ → Type 0
IsPlainBy p separator =
    (b : ℕ) → p b ≡ true → ((b == separator) ≡ false) × ((b == 34) ≡ false) × ((b == 10) ≡ false) × ((b == 13) ≡ false)

plain_text : (p : ℕ → Bool) (separator : ℕ) (text : List ℕ) → IsPlainBy p separator → list_all p text ≡ true
    → is_plain separator text ≡ true
plain_text p separator [] plain all = refl
plain_text p separator (b ∷ bs) plain all =
    let (first, more) = both (p b) (list_all p bs) all in
    let (other, quote, feed, return) = plain b first in
    rw (other, quote, feed, return) (plain_text p separator bs plain more)

plain_field : (p : ℕ → Bool) (separator : ℕ) (quotes : Bool) (text : List ℕ) → IsPlainBy p separator
    → list_all p text ≡ true
    → (is_plain separator text ≡ true) × (is_uncut separator quotes false text ≡ true)
    × (is_uncut 10 quotes false text ≡ true) × (inside_after quotes false text ≡ false)
plain_field p separator quotes text plain all =
    let (uncut, closed) = fields p separator quotes text (λ b q. (plain b q).1) (λ b q. (plain b q).0) all in (
      plain_text p separator text plain all,
      uncut,
      (fields p 10 quotes text (λ b q. (plain b q).1) (λ b q. (plain b q).2) all).0,
      closed,
    )

no_return : (b : ℕ) → is_lower_or_digit b ≡ true → (b == 13) ≡ false
no_return b q = grind (arith, nat_tests)

pub words_are_fields : WordsAreFields
words_are_fields separator quotes text serves word =
    plain_field is_lower_or_digit separator quotes text
    (λ b q. (apart separator b serves q, (no_feed b q).1, (no_feed b q).0, no_return b q)) word

-- ---- names of errors

-- a capital letter or an underscore
is_of_a_name : ℕ → Bool
is_of_a_name b = (nat_le 65 b && nat_le b 90) || b == 95

name_is : (e : H3Error) → list_all is_of_a_name (error_name e) ≡ true
unfolding is_of_a_name
name_is Failed = refl
name_is Domain = refl
name_is ResDomain = refl
name_is CellInvalid = refl
name_is DirEdgeInvalid = refl
name_is Pentagon = refl
name_is DuplicateInput = refl
name_is NotNeighbors = refl
name_is ResMismatch = refl
name_is MemoryAlloc = refl

row_name_is : (e : RowError) → list_all is_of_a_name (row_error_name e) ≡ true
row_name_is (of_row.Bad fault) = name_is Failed
row_name_is (of_row.Call e) = name_is e
row_name_is of_row.NotANumber = name_is Failed

name_apart : (separator b : ℕ) → is_separator separator ≡ true → (separator == 95) ≡ false → is_of_a_name b ≡ true
    → (b == separator) ≡ false
unfolding is_of_a_name
name_apart separator b p other q = grind (arith, nat_tests)

name_plain : (b : ℕ) → is_of_a_name b ≡ true → ((b == 34) ≡ false) × ((b == 10) ≡ false) × ((b == 13) ≡ false)
unfolding is_of_a_name
name_plain b q = (grind (arith, nat_tests), grind (arith, nat_tests), grind (arith, nat_tests))

pub error_names_are_fields : ErrorNamesAreFields
error_names_are_fields separator quotes e serves other =
    plain_field is_of_a_name separator quotes (row_error_name e)
    (λ b q. (name_apart separator b serves other q, (name_plain b q).0, (name_plain b q).1, (name_plain b q).2))
    (row_name_is e)

pub error_names_are_kept : FieldsAreKept → ErrorNamesAreKept
error_names_are_kept kept separator quotes row e serves other closed =
    let (free, uncut, feed, inside) = error_names_are_fields separator quotes e serves other in
    kept separator quotes row (row_error_name e) (no_quote_separates separator serves) closed uncut inside

-- ---- pairs of words

-- neither a line feed nor a quote
is_quiet : ℕ → Bool
is_quiet b = not (b == 10 || b == 34)

neither : (x y : Bool) → not (x || y) ≡ true → (x ≡ false) × (y ≡ false)
neither true y h = absurd (cc)
neither false true h = absurd (cc)
neither false false h = (refl, refl)

quiet : (quotes : Bool) (text : List ℕ) → list_all is_quiet text ≡ true
    → (is_uncut 10 quotes false text ≡ true) × (inside_after quotes false text ≡ false)
unfolding is_quiet
quiet quotes [] all = (refl, refl)
quiet quotes (b ∷ bs) all =
    let (first, more) = both (is_quiet b) (list_all is_quiet bs) all in
    let (feed, mark) = neither (b == 10) (b == 34) first in
    let calm : turned quotes false b ≡ false = rw (mark, no_quote quotes) refl in
    let (uncut, closed) = quiet quotes bs more in
    (rw (feed, calm) uncut, rw calm closed)

quiet_word : (text : List ℕ) → IsWord text → list_all is_quiet text ≡ true
unfolding is_quiet
quiet_word [] word = refl
quiet_word (b ∷ bs) word =
    let (first, more) = both (is_lower_or_digit b) (list_all is_lower_or_digit bs) word in
    rw ((no_feed b first).0, (no_feed b first).1) (quiet_word bs more)

quiet_separator : (separator : ℕ) → is_separator separator ≡ true → is_quiet separator ≡ true
unfolding is_quiet
quiet_separator separator serves = grind (arith, nat_tests)

pub word_pairs_are_uncut : WordPairsAreUncut
word_pairs_are_uncut separator quotes a b serves first second =
    quiet quotes (a ++ (separator ∷ b)) (list_all-append is_quiet a (separator ∷ b)
    ∙ rw (quiet_word a first, quiet_separator separator serves, quiet_word b second) refl)

pub words_are_kept : FieldsAreKept → WordsAreKept
words_are_kept kept separator quotes row a serves closed word =
    let (free, uncut, feed, inside) = words_are_fields separator quotes a serves word in
    kept separator quotes row a (no_quote_separates separator serves) closed uncut inside

pub word_pairs_are_kept : PairsAreKept → WordPairsAreKept
word_pairs_are_kept kept separator quotes row a b serves closed first second =
    let (free, uncut, feed, inside) = words_are_fields separator quotes a serves first in
    let (other_free, other_uncut, other_feed, other_inside) = words_are_fields separator quotes b serves second in
    kept separator quotes row a b (no_quote_separates separator serves) closed uncut inside other_uncut other_inside

-- ---- answers to cells

-- one of some names, or none
any_name : (P : List ℕ → Type 0) (names : List (List ℕ)) (n : ℕ) → All P names → P [] → P (get_or names n [])
any_name P [] n all empty = empty
any_name P (name ∷ names) zero all empty = All-head P name names all
any_name P (name ∷ names) (suc n) all empty = any_name P names n (All-tail P name names all) empty

as_field : (separator : ℕ) (quotes : Bool) (name : List ℕ) → IsOneField separator quotes name
    → IsField separator quotes name
as_field separator quotes name own =
    record {
      in_row = own.uncut;
      in_line = own.on_line;
      returnless = own.returnless;
      closed = own.closed;
      sound = own.sound;
    }

names_are_fields : (separator : ℕ) (quotes : Bool) (names : List (List ℕ)) → All (IsOneField separator quotes) names
    → All (IsField separator quotes) names
names_are_fields separator quotes [] all = All-nil (IsField separator quotes)
names_are_fields separator quotes (name ∷ names) all =
    let own = All-head (IsOneField separator quotes) name names all in
    All-cons (IsField separator quotes) name names (as_field separator quotes name own)
    (names_are_fields separator quotes names (All-tail (IsOneField separator quotes) name names all))

-- the names of areas, or what stands for none
are_fields : (separator : ℕ) (quotes : Bool) (names : List (List ℕ)) (numbers : List ℕ)
    → All (IsField separator quotes) names → All (IsField separator quotes) (map (λ n. get_or names n []) numbers)
are_fields separator quotes names [] fields = All-nil (IsField separator quotes)
are_fields separator quotes names (n ∷ ns) fields =
    All-cons (IsField separator quotes) (get_or names n []) (map (λ n. get_or names n []) ns)
    (any_name (IsField separator quotes) names n fields
    (record { in_row = refl; in_line = refl; returnless = λ counts. refl; closed = refl; sound = λ counts. refl }))
    (are_fields separator quotes names ns fields)

lines_of_names : (separator : ℕ) (quotes : Bool) (none : List ℕ) (names : List (List ℕ)) (numbers : List ℕ)
    → IsField separator quotes none → All (IsField separator quotes) names
    → AreLinesOf (IsField separator quotes) (flat_map (λ name. name ++ 10 ∷ []) (names_or none names numbers))
lines_of_names separator quotes none names [] plain fields =
    (none ∷ [], All-cons (IsField separator quotes) none [] plain (All-nil (IsField separator quotes)), refl)
lines_of_names separator quotes none names (n ∷ ns) plain fields =
    (map (λ n. get_or names n []) (n ∷ ns), are_fields separator quotes names (n ∷ ns) fields, refl)

-- where a table is not refused, this is what is read of it
unrefused : (refusal : Option H3Error) (es entries : List Entry) → unless_overlapping refusal es ≡ Ok entries
    → ◌≡◌ {A = Result (List Entry) AnswerError} (Ok es) (Ok entries)
unrefused None es entries is = is
unrefused (Some e) es entries is = absurd (cc)

entries_read : (overlapping quotes : Bool) (read : Result (List Entry) AnswerError) (entries : List Entry)
    → judged_areas overlapping quotes read ≡ Ok entries → read ≡ Ok entries
entries_read overlapping quotes (Err e) entries is = absurd (cc)
entries_read overlapping quotes (Ok es) entries is =
    unrefused (overlap_error overlapping (area_cells quotes es)) es entries is

-- a byte that is not the separator, a quote, a line feed or a carriage return
plain_byte : (separator : ℕ) → IsPlainBy (λ b. not ((b == separator) || (b == 34) || (b == 10) || (b == 13))) separator
plain_byte separator b h =
    let (rest, return) = neither ((b == separator) || (b == 34) || (b == 10)) (b == 13) h in
    let (more, feed) = neither ((b == separator) || (b == 34)) (b == 10) (rw rest refl) in
    let (other, quote) = neither (b == separator) (b == 34) (rw more refl) in
    (other, quote, feed, return)

-- where nothing cuts bytes, they are one piece
whole_piece : (mark : ℕ) (quotes inside : Bool) (bytes : List ℕ) → is_uncut mark quotes inside bytes ≡ true
    → cut mark quotes inside bytes ≡ (bytes, inside_after quotes inside bytes) ∷ []
whole_piece mark quotes inside [] uncut = refl
whole_piece mark quotes inside (b ∷ bs) uncut =
    let (other, more) =
    both (not ((b == mark) && not inside)) (is_uncut mark quotes (turned quotes inside b) bs) uncut in
    let flipped : (x : Bool) → not x ≡ true → x ≡ false =
    λ x. elim x as (λ x. not x ≡ true → x ≡ false) [ true ↦ λ h. absurd (cc) | false ↦ λ h. refl ] in
    rw (flipped ((b == mark) && not inside) other)
    (ap (with_first b) (whole_piece mark quotes (turned quotes inside b) bs more))

-- bytes without a quote
quoteless : List ℕ → Bool
quoteless bytes = list_all (λ b. not (b == 34)) bytes

flip : (x : Bool) → not x ≡ true → x ≡ false
flip true h = absurd (cc)
flip false h = refl

opens_none : (separator : ℕ) (start after inside : Bool) (bytes : List ℕ) → quoteless bytes ≡ true
    → opens_well separator start after inside bytes ≡ true
unfolding quoteless
opens_none separator start after inside [] none = refl
opens_none separator start after inside (b ∷ bs) none =
    let (first, more) = both (not (b == 34)) (list_all (λ b. not (b == 34)) bs) none in
    rw (flip (b == 34) first)
    (opens_none separator (not inside && (b == separator || (start && is_blank b))) false inside bs more)

pads_none : (bytes : List ℕ) → quoteless bytes ≡ true → (get_or (without_leading_blanks bytes) 0 0 == 34) ≡ false
unfolding quoteless
pads_none [] none = refl
pads_none (b ∷ bs) none =
    let (first, more) = both (not (b == 34)) (list_all (λ b. not (b == 34)) bs) none in
    let either : (t : Bool) → (get_or (if t then without_leading_blanks bs else b ∷ bs) 0 0 == 34) ≡ false =
    λ t. elim t as (λ t. (get_or (if t then without_leading_blanks bs else b ∷ bs) 0 0 == 34) ≡ false)
    [ true ↦ pads_none bs more | false ↦ flip (b == 34) first ] in
    either (is_blank b)

and_false : (x : Bool) → (x && false) ≡ false
and_false true = refl
and_false false = refl

-- one field without a quote has sound ones
sound_alone : (separator : ℕ) (bytes : List ℕ) → quoteless bytes ≡ true → is_uncut separator true false bytes ≡ true
    → quotes_are_sound separator bytes ≡ true
sound_alone separator bytes none uncut =
    rw (
      opens_none separator true false false bytes none,
      whole_piece separator true false bytes uncut,
      pads_none bytes none,
      and_false (is_blank (get_or bytes 0 0)),
    ) refl

plain_quoteless : (separator : ℕ) (text : List ℕ) → is_plain_field separator text ≡ true → quoteless text ≡ true
unfolding quoteless
plain_quoteless separator [] plain = refl
plain_quoteless separator (b ∷ bs) plain =
    let (first, more) =
    both (not ((b == separator) || (b == 34) || (b == 10) || (b == 13)))
    (list_all (λ b. not ((b == separator) || (b == 34) || (b == 10) || (b == 13))) bs) plain in
    let (other, quote, feed, return) = plain_byte separator b first in
    rw quote (plain_quoteless separator bs more)

-- what has none of these is one field
pub plain_lines : (separator : ℕ) (quotes : Bool) (text : List ℕ) → is_plain_field separator text ≡ true
    → IsField separator quotes text
plain_lines separator quotes text plain =
    let is_plain_byte : ℕ → Bool = λ b. not ((b == separator) || (b == 34) || (b == 10) || (b == 13)) in
    let (own, uncut, feed, closed) = plain_field is_plain_byte separator quotes text (plain_byte separator) plain in
    record {
      in_row = uncut;
      in_line = feed;
      returnless =
          λ counts. (fields is_plain_byte 13 quotes text (λ b q. (plain_byte separator b q).1)
          (λ b q. (plain_byte separator b q).3) plain).0;
      closed = closed;
      sound =
          λ counts. sound_alone separator text (plain_quoteless separator text plain) (fields is_plain_byte separator
          true text (λ b q. (plain_byte separator b q).1) (λ b q. (plain_byte separator b q).0) plain).0;
    }

area_lines : NamesAreFields
    → (overlapping : Bool) (areas : AreaOptions) (bytes : List ℕ) (entries : List Entry) (index : Option ℕ)
    → areas_of_file overlapping (names_table areas.table) bytes ≡ Ok entries
    → AreAnswerLines (IsZoneLine (Some areas))
    (area_answer areas.table.rows.quotes (string_bytes areas.none) entries index)
area_lines names overlapping areas bytes entries index is =
    let quotes = areas.table.rows.quotes in
    let separator = areas.table.rows.separator in
    let none = string_bytes areas.none in
    let read = entries_read overlapping quotes (entries_of_table (names_table areas.table) bytes) entries is in
    let each =
    names (names_table areas.table) bytes entries (no_quote_separates separator areas.table.rows.separates) read in
    let own = names_are_fields separator quotes (area_names quotes entries) each in
    printed_lines (IsField separator quotes) (name_lines none (area_names quotes entries) (area_cells quotes entries))
    (cell_given index)
    (λ cell. lines_of_names separator quotes none (area_names quotes entries)
    (areas_of (area_cells quotes entries) cell) (plain_lines separator quotes none areas.plain) own)

-- where cells lie: zones, or areas with names
zone_lines_of : NamesAreFields → (tables : Tables) (areas : Option AreaOptions)
    → AnswersBy (AreAnswerLines (IsZoneLine areas)) (zones_request tables areas)
zone_lines_of names tables None = λ zones index. printed_lines IsWord zone_line (cell_to_zone zones index) zone_lines
zone_lines_of names tables (Some areas) =
    λ bytes entries is index. area_lines names areas.overlapping areas bytes entries index is

no_lines_summed : (Is : Answer → Type 0) (areas : AreaOptions) (list : Option RowOptions)
    (sum : Option (RowOptions × CellField))
    → AnswersBy Is (area_counts_request areas list sum)
no_lines_summed Is areas list None = λ bytes entries is. tt
no_lines_summed Is areas list (Some sum) = λ bytes entries is. tt

no_lines_of_zones : (Is : Answer → Type 0) (tables : Tables) (sum : Option (RowOptions × CellField))
    → AnswersBy Is (zone_counts_request tables sum)
no_lines_of_zones Is tables None = λ zones. tt
no_lines_of_zones Is tables (Some sum) = λ zones. tt

-- counts are no answer line by line
no_lines_counted : (Is : Answer → Type 0) (tables : Tables) (areas : Option AreaOptions)
    → AnswersBy Is (counts_request tables areas)
no_lines_counted Is tables None = no_lines_of_zones Is tables (summed tables.list tables.sum)
no_lines_counted Is tables (Some areas) = no_lines_summed Is areas tables.list (summed tables.list tables.sum)

-- nor are the counts and sums by ancestors
no_lines_of_parents : (Is : Answer → Type 0) (res : ℤ) (list : Option RowOptions)
    (sum : Option (RowOptions × CellField)) → AnswersEach Is (parents_request res list sum)
no_lines_of_parents Is res list None = tt
no_lines_of_parents Is res list (Some sum) = tt

-- nor are lists by the values of a field
no_lines_by : (Is : Answer → Type 0) (by : Option CellField) (list : Option RowOptions)
    (function : List Address → Result (List Address) H3Error) (otherwise : ListRequest)
    → AnswersEach Is otherwise → AnswersEach Is (by_request by list function otherwise)
no_lines_by Is None list function otherwise h = h
no_lines_by Is (Some field) None function otherwise h = h
no_lines_by Is (Some field) (Some rows) function otherwise h = tt

-- nor is one list of a region's cells and others, or one for each value
no_lines_combined : (Is : Answer → Type 0) (tables : Tables) (function : List Address → List Address → List Address)
    (region : List Address) → AnswersEach Is (combined_request tables function region)
no_lines_combined Is tables function region =
    no_lines_by Is tables.by tables.list (λ cells. Ok (function region cells))
    (of_numbered itself (list_form tables.list) (λ cells. written (cell_lines (function region cells)))) tt

pub answers_are_words : NamesAreFields → AnswersAreWords
answers_are_words names tables command.CompactCells =
    no_lines_by (AreAnswerLines IsWord) tables.by tables.list compact_cells
    (of_whole (list_form tables.list) (λ cells. printed cell_lines (compact_cells cells))) tt
answers_are_words names tables (command.UncompactCells res) =
    no_lines_by (AreAnswerLines IsWord) tables.by tables.list (uncompact_cells res)
    (of_whole (list_form tables.list) (λ cells. printed cell_lines (uncompact_cells res cells))) tt
answers_are_words names tables command.UniteCells =
    no_lines_by (AreAnswerLines IsWord) tables.by tables.list (λ cells. Ok (compacted cells))
    (of_numbered itself (list_form tables.list) (λ cells. written (cell_lines (compacted cells)))) tt
answers_are_words names tables command.IntersectCells =
    no_lines_combined (AreAnswerLines IsWord) tables (λ region cells. intersection cells region)
answers_are_words names tables command.SubtractCells =
    no_lines_combined (AreAnswerLines IsWord) tables (λ region cells. difference cells region)
answers_are_words names tables command.AreCoveredCells =
    λ cells index. printed_lines IsWord truth_line (is_covered_cell (compacted cells) index) truth_lines
answers_are_words names tables command.CountCellsInZones = no_lines_counted (AreAnswerLines IsWord) tables tables.areas
answers_are_words names tables (command.CountCellsInParents res) =
    no_lines_of_parents (AreAnswerLines IsWord) res tables.list (summed tables.list tables.sum)
answers_are_words names tables command.CellsToZones = zone_lines_of names tables tables.areas
answers_are_words names tables (command.GridDiskUnsafe cell k) =
    one_query (AreAnswerLines IsWord) (λ c link. answer_or_error (walked cell_line) (grid_disk_unsafe link c k))
    (cell_given cell)
answers_are_words names tables (command.GridDiskDistancesUnsafe cell k) =
    one_query (AreAnswerLines IsWord)
    (λ c link. answer_or_error (walked ring_line) (grid_disk_distances_unsafe link c k)) (cell_given cell)
answers_are_words names tables (command.GridRingUnsafe cell k) =
    one_query (AreAnswerLines IsWord) (λ c link. answer_or_error (walked cell_line) (grid_ring_unsafe link c k))
    (cell_given cell)
answers_are_words names tables (command.AreNeighborCells cell to) =
    one_query (AreAnswerLines IsWord) (λ cells link. printed truth_line (are_neighbor_cells link cells))
    (pair_of (cell_given cell) (cell_given to))
answers_are_words names tables (command.CellsToDirectedEdge cell to) =
    one_query (AreAnswerLines IsWord) (λ cells link. printed edge_line (cells_to_directed_edge link cells))
    (pair_of (cell_given cell) (cell_given to))
answers_are_words names tables (command.GetDirectedEdgeDestination edge) =
    one_query (AreAnswerLines IsWord) (λ e link. printed cell_line (get_directed_edge_destination link e))
    (edge_given edge)
answers_are_words names tables (command.CellsToChildren res) =
    λ index. printed_lines IsWord cell_lines
    (for_value (λ h. cell_to_children h res) (index_given index)) lines_of_cells
answers_are_words names tables (command.GridDisksUnsafe k) =
    λ link index. printed_lines IsWord cell_lines
    (for_value (λ c. whole_walk (grid_disk_unsafe link c k)) (cell_given index)) lines_of_cells
answers_are_words names tables (command.GridDisksDistancesUnsafe k) =
    λ link index. printed_lines (IsPairOfWords (between_parts tables.list))
    (flat_map (ring_line_by (between_parts tables.list)))
    (for_value (λ c. whole_walk (grid_disk_distances_unsafe link c k)) (cell_given index))
    (lines_of_rings (between_parts tables.list))
answers_are_words names tables (command.GridRingsUnsafe k) =
    λ link index. printed_lines IsWord cell_lines
    (for_value (λ c. whole_walk (grid_ring_unsafe link c k)) (cell_given index)) lines_of_cells
answers_are_words names tables command.GetDirectedEdgeDestinations =
    λ link index. printed_lines IsWord cell_line (destination_of link index) line_of_cell
answers_are_words names tables (command.ForEach function) = lines_for function
answers_are_words names tables other = tt

-- ---- the name of the new column

-- one of the names that are read, or another one
title_after_is : (P : List ℕ → Type 0) (title : Option (List ℕ)) (other : List ℕ) (entries : List Entry)
    → P (unwrap_or title other) → P other → All (λ e. P e.field) entries
    → P (unwrap_or (title_after title entries) other)
title_after_is P title other [] own last all = own
title_after_is P title other (e ∷ es) own last all =
    let first : P e.field = All-head (λ e. P e.field) e es all in
    let either : (cell : Option Address) → P (unwrap_or (title_with title cell e.field) other) =
    λ cell. elim cell as (λ cell. P (unwrap_or (title_with title cell e.field) other)) [ None ↦ first | Some c ↦ own ]
    in
    title_after_is P (title_with title e.cell e.field) other es (either e.cell) last
    (All-tail (λ e. P e.field) e es all)

entries_as_fields : (separator : ℕ) (quotes : Bool) (entries : List Entry)
    → All (λ e. IsOneField separator quotes e.field) entries → All (λ e. IsField separator quotes e.field) entries
entries_as_fields separator quotes [] all = All-nil (λ e. IsField separator quotes e.field)
entries_as_fields separator quotes (e ∷ es) all =
    All-cons (λ e. IsField separator quotes e.field) e es
    (as_field separator quotes e.field (All-head (λ e. IsOneField separator quotes e.field) e es all))
    (entries_as_fields separator quotes es (All-tail (λ e. IsOneField separator quotes e.field) e es all))

pub titles_are_fields : EntriesAreFields → TitlesAreFields
titles_are_fields law overlapping areas bytes entries is =
    let quotes = areas.table.rows.quotes in
    let separator = areas.table.rows.separator in
    let read = entries_read overlapping quotes (entries_of_table (names_table areas.table) bytes) entries is in
    let each =
    entries_as_fields separator quotes entries
    (law (names_table areas.table) bytes entries (no_quote_separates separator areas.table.rows.separates) read) in
    let zone =
    plain_lines separator quotes (codes "zone")
    (words_are_fields separator quotes (codes "zone") areas.table.rows.separates refl).0 in
    title_after_is (IsField separator quotes) None (codes "zone") entries zone zone each

-- ---- names beside rows

-- a byte that may come, and what follows it
opens : (x rest : Bool) → (if x then rest else false) ≡ true → (x ≡ true) × (rest ≡ true)
opens true rest h = (refl, h)
opens false rest h = absurd (cc)

no_mark : (separator : ℕ) → (34 == separator) ≡ false → (separator == 34) ≡ false
no_mark separator apart = grind (arith, nat_tests)

-- quotes open well in a row, and then in a field
opens_beside : (separator : ℕ) (start after inside : Bool) (row field : List ℕ) → (34 == separator) ≡ false
    → inside_after true inside row ≡ false
    → opens_well separator start after inside row ≡ true → opens_well separator true false false field ≡ true
    → opens_well separator start after inside (row ++ separator ∷ field) ≡ true
opens_beside separator start after inside [] field apart closed whole more =
    rw (no_mark separator apart, closed, eq-eqb separator separator refl) more
opens_beside separator start after inside (b ∷ bs) field apart closed whole more =
    let go : (q : Bool) → (b == 34) ≡ q → inside_after true (if q then not inside else inside) bs ≡ false
    → (if q then (if inside || start || after then opens_well separator false true (not inside) bs else false)
    else opens_well separator (not inside && (b == separator || (start && is_blank b))) false inside bs)
    ≡ true
    → (if q then (if inside || start || after then opens_well separator false true (not inside)
    (bs ++ separator ∷ field) else false) else opens_well separator (not inside &&
    (b == separator || (start && is_blank b))) false inside (bs ++ separator ∷ field))
    ≡ true =
    λ q. elim q as (λ q. (b == 34) ≡ q → inside_after true (if q then not inside else inside) bs ≡ false
    → (if q then (if inside || start || after then opens_well separator false true (not inside) bs else false)
    else opens_well separator (not inside && (b == separator || (start && is_blank b))) false inside bs)
    ≡ true
    → (if q then (if inside || start || after then opens_well separator false true (not inside)
    (bs ++ separator ∷ field) else false) else opens_well separator (not inside &&
    (b == separator || (start && is_blank b))) false inside (bs ++ separator ∷ field))
    ≡ true) [
      | true ↦ λ is shut sound. (
          let (may, rest) = opens (inside || start || after) (opens_well separator false true (not inside) bs) sound in
          rw may (opens_beside separator false true (not inside) bs field apart shut rest more))
      | false ↦
          λ is shut sound. opens_beside separator
          (not inside && (b == separator || (start && is_blank b))) false inside bs field apart shut sound more
    ] in
    go (b == 34) refl closed whole

sound_beside : (separator : ℕ) (row field : List ℕ) → (34 == separator) ≡ false → inside_after true false row ≡ false
    → is_uncut separator true false field ≡ true
    → cut separator true false (row ++ separator ∷ field) ≡ cut separator true false row ++ (field, false) ∷ []
    → quotes_are_sound separator row ≡ true → quotes_are_sound separator field ≡ true
    → quotes_are_sound separator (row ++ separator ∷ field) ≡ true
sound_beside separator row field apart closed uncut kept whole more =
    let alike : Piece → Bool = λ p. is_read_alike separator p.0 in
    let (row_opens, row_alike) =
    both (opens_well separator true false false row) (list_all alike (cut separator true false row)) whole in
    let (field_opens, pieces_alike) =
    both (opens_well separator true false false field) (list_all alike (cut separator true false field)) more in
    let one = subst (λ l. list_all alike l ≡ true) (whole_piece separator true false field uncut) pieces_alike in
    let field_alike = (both (is_read_alike separator field) true one).0 in
    rw (
      opens_beside separator true false false row field apart closed row_opens field_opens,
      kept,
      list_all-append alike (cut separator true false row) ((field, false) ∷ []),
      row_alike,
      field_alike,
    ) refl

no_return_separates : (separator : ℕ) → is_separator separator ≡ true → (separator == 13) ≡ false
no_return_separates separator serves = grind (arith, nat_tests)

-- no mark cuts a row, nor a field behind it
uncut_beside : (mark separator : ℕ) (inside : Bool) (row field : List ℕ) → (separator == mark) ≡ false
    → (separator == 34) ≡ false → is_uncut mark true inside row ≡ true → inside_after true inside row ≡ false
    → is_uncut mark true false field ≡ true → is_uncut mark true inside (row ++ separator ∷ field) ≡ true
uncut_beside mark separator inside [] field other quote uncut closed more = rw (closed, other, quote) more
uncut_beside mark separator inside (b ∷ bs) field other quote uncut closed more =
    let (first, rest) = both (not ((b == mark) && not inside)) (is_uncut mark true (turned true inside b) bs) uncut in
    rw first (uncut_beside mark separator (turned true inside b) bs field other quote rest closed more)

pub names_are_kept : FieldsAreKept → NamesAreKept
names_are_kept law rows areas row name separators counts closed field =
    let separator = rows.separator in
    let quotes = rows.quotes in
    let apart = no_quote_separates separator rows.separates in
    let own : IsField separator quotes name =
    subst (λ s. IsField s quotes name) separators
    (subst (λ q. IsField areas.table.rows.separator q name) counts field) in
    let kept = law separator quotes row name apart closed own.in_row own.closed in (
      kept,
      λ yes sound.
          let cut_alike =
          subst (λ q. cut separator q false (row ++ separator ∷ name) ≡ cut separator q false row ++ (name, false) ∷
          []) yes kept in
          sound_beside separator row name apart (subst (λ q. inside_after q false row ≡ false) yes closed)
          (subst (λ q. is_uncut separator q false name ≡ true) yes own.in_row) cut_alike sound (own.sound yes),
      λ yes uncut. uncut_beside 13 separator false row name (no_return_separates separator rows.separates)
          (no_mark separator apart) uncut (subst (λ q. inside_after q false row ≡ false) yes closed)
          (subst (λ q. is_uncut 13 q false name ≡ true) yes (own.returnless yes)),
    )

-- ---- a row for each line

-- there is a first piece
some_piece : (quotes inside : Bool) (bytes : List ℕ)
    → (p : Piece) × (more : List Piece) × (cut 10 quotes inside bytes ≡ p ∷ more)
some_piece quotes inside [] = (([], inside), [], refl)
some_piece quotes inside (b ∷ bs) =
    let (p, more, is) = some_piece quotes (turned quotes inside b) bs in
    elim ((b
    == 10) && not inside) as (λ t. (q : Piece) × (others : List Piece) × ((if t then (
      [],
      false,
    ) ∷ cut 10 quotes false bs else with_first b (cut 10 quotes (turned quotes inside b) bs))
    ≡ q ∷ others))
    [ true ↦ (([], false), cut 10 quotes false bs, refl) | false ↦ ((b ∷ p.0, p.1), more, ap (with_first b) is) ]

-- a line is cut off at its line feed
cut_line : (quotes inside : Bool) (line rest : List ℕ) → is_uncut 10 quotes inside line ≡ true
    → inside_after quotes inside line ≡ false
    → cut 10 quotes inside (line ++ (10 ∷ rest)) ≡ (line, false) ∷ cut 10 quotes false rest
cut_line quotes inside [] rest uncut closed = rw closed refl
cut_line quotes inside (b ∷ bs) rest uncut closed =
    let (other, more) = both (not ((b == 10) && not inside)) (is_uncut 10 quotes (turned quotes inside b) bs) uncut in
    let flipped : (x : Bool) → not x ≡ true → x ≡ false =
    λ x. elim x as (λ x. not x ≡ true → x ≡ false) [ true ↦ λ h. absurd (cc) | false ↦ λ h. refl ] in
    rw (flipped ((b == 10) && not inside) other)
    (ap (with_first b) (cut_line quotes (turned quotes inside b) bs rest more closed))

pub rows_stand_once : RowsStandOnce
rows_stand_once separator quotes after row [] all = refl
rows_stand_once separator quotes after row (line ∷ lines) all =
    let rest : List ℕ = flat_map (λ line. line ++ 10 ∷ []) lines in
    let (p, more, is) = some_piece quotes false rest in
    let own = All-head (λ line. Uncut 10 quotes false line false) line lines all in
    let first : cut 10 quotes false ((line ++ 10 ∷ []) ++ rest) ≡ (line, false) ∷ (p ∷ more) =
    ap (cut 10 quotes false) (append_assoc line (10 ∷ []) rest)
    ∙ cut_line quotes false line rest own.uncut own.inside_is ∙ ap (λ ps. (line, false) ∷ ps) is in
    let later : each_with separator after row (p ∷ more)
    ≡ flat_map (λ line. row_with separator row (line ++ after)) lines =
    ap (each_with separator after row) (sym is)
    ∙ rows_stand_once separator quotes after row lines
    (All-tail (λ line. Uncut 10 quotes false line false) line lines all) in
    ap (each_with separator after row) first ∙ ap (λ l. row_with separator row (line ++ after) ++ l) later
