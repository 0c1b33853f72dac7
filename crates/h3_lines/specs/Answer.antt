-- An answer, and the lines that it has.
use Rattle.std.specs.Prelude.{◌≡◌, ◌⊎◌, ℕ, Bool, List, [], ◌∷◌, ◌++◌, codes, decimal, Option, None, Some, Result, Ok, Err, if◌then◌else◌}
use Rattle.std.specs.List.{flat_map}
use Rattle.h3_index.specs.Cell.{Address, number_of}
use Rattle.h3_index.specs.Descendants.{children}
use Rattle.h3_index.specs.Edge.{DirectedEdge, edge_number}
use Rattle.h3_index.specs.Text.{text_of}
use Rattle.h3_index.specs.declared.error.H3Error.{H3Error}
use Rattle.h3_directions.specs.declared.error.TableError.{TableError}
use Rattle.h3_lines.specs.declared.run_error.AnswerError.{AnswerError}
use Rattle.h3_lines.specs.declared.run_error.AnswerError.TheVariants.{Call, Table}

-- Answer: the bytes of the output, and the error that it ends with, if it has one
--
-- the bytes of the output, and the error that it ends with, if it has one, which fixes the line on standard error and
-- the exit status; a fault is no part of an answer
pub record Answer : Type 0 where
  pub output : List ℕ
  pub ending : Result (Unit {0}) AnswerError

-- written bytes: the answer that is these bytes
abbrev pub written : List ℕ → Answer
written bytes = record { output = bytes; ending = Ok tt }

-- refused e: the answer that is an error, with no output
abbrev pub refused : H3Error → Answer
refused e = record { output = []; ending = Err (Call e) }

-- an error of the base cell table, and no output
abbrev pub table_refused : TableError → Answer
table_refused e = record { output = []; ending = Err (Table e) }

-- ---- lines

-- AreLines text: the text is lines, each ended by a line feed: it has no byte, or its last one is a line feed
abbrev pub AreLines : List ℕ → Type 0
AreLines text = (text ≡ []) ⊎ ((front : List ℕ) × (text ≡ front ++ 10 ∷ []))

-- truth_line b: `true` or `false`, and a line feed
abbrev pub truth_line : Bool → List ℕ
truth_line b = (if b then codes "true" else codes "false") ++ 10 ∷ []

-- number_line n: a number in decimal, and a line feed
abbrev pub number_line : ℕ → List ℕ
number_line n = decimal n ++ 10 ∷ []

-- cell_line c: the text of a cell's number, and a line feed
abbrev pub cell_line : Address → List ℕ
cell_line c = text_of (number_of c) ++ 10 ∷ []

-- ring_line item: the same with a space and the ring before the line feed
abbrev pub ring_line : Address × ℕ → List ℕ
ring_line item = text_of (number_of item.0) ++ 32 ∷ decimal item.1 ++ 10 ∷ []

-- ring_line_by between item: the text of a cell's number, a byte, the ring in decimal, and a line feed
abbrev pub ring_line_by : ℕ → Address × ℕ → List ℕ
ring_line_by between item = text_of (number_of item.0) ++ between ∷ decimal item.1 ++ 10 ∷ []

-- the text of the number of a zone, `0` where there is none
abbrev pub zone_text : Option Address → List ℕ
zone_text None = codes "0"
zone_text (Some zone) = text_of (number_of zone)

-- zone_line zone: the text of the number of a zone, `0` where there is none, and a line feed
abbrev pub zone_line : Option Address → List ℕ
zone_line zone = zone_text zone ++ 10 ∷ []

-- count_line item: the text of the number of a zone, `0` where there is none, a space, a count in decimal, and a line
-- feed
abbrev pub count_line : Option Address × ℕ → List ℕ
count_line item = zone_text item.0 ++ 32 ∷ decimal item.1 ++ 10 ∷ []

-- a line for each cell
abbrev pub cell_lines : List Address → List ℕ
cell_lines cells = flat_map cell_line cells

-- children_lines c: a line for each child of a cell
abbrev pub children_lines : Address → List ℕ
children_lines c = cell_lines (children c)

-- edge_line e: the text of an edge's number, and a line feed
abbrev pub edge_line : DirectedEdge → List ℕ
edge_line e = text_of (edge_number e) ++ 10 ∷ []

-- a line for each edge
abbrev pub edge_lines : List DirectedEdge → List ℕ
edge_lines edges = flat_map edge_line edges

-- answer_or_error about r: the answer about what a function returns, or its error
abbrev pub answer_or_error : {A : Type 0} → (A → Answer) → Result A H3Error → Answer
answer_or_error about (Ok value) = about value
answer_or_error about (Err e) = refused e

-- printed text r: the text of what a function returns, or its error
abbrev pub printed : {A : Type 0} → (A → List ℕ) → Result A H3Error → Answer
printed text value = answer_or_error (λ v. written (text v)) value

-- bytes before an answer
abbrev pub before : List ℕ → Answer → Answer
before bytes a = record { output = bytes ++ a.output; ending = a.ending }

-- walked line items: a line for each item, up to the first error, with which the answer then ends
abbrev pub walked : {A : Type 0} → (A → List ℕ) → List (Result A H3Error) → Answer
walked line [] = written []
walked line (Ok item ∷ items) = before (line item) (walked line items)
walked line (Err e ∷ items) = refused e

-- before_items item items: an item before others, if these have no error
abbrev pub before_items : {A : Type 0} → A → Result (List A) H3Error → Result (List A) H3Error
before_items item (Ok items) = Ok (item ∷ items)
before_items item (Err e) = Err e

-- whole_items items: the items, of which none is an error, or the first error
abbrev pub whole_items : {A : Type 0} → List (Result A H3Error) → Result (List A) H3Error
whole_items [] = Ok []
whole_items (Ok item ∷ items) = before_items item (whole_items items)
whole_items (Err e ∷ items) = Err e
