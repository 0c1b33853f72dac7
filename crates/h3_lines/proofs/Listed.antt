-- A list of cells whose lines are taken one after another, and counted.
use Rattle.std.proofs.Common.{◌≡◌, ℕ, ◌+◌, ◌<◌, ◌≤◌, ◌⊎◌, true, false, List, [], ◌∷◌, ◌++◌, length, Option, Result, Ok, Err, IfOk, IsOk, OnOk, nat_lt, sym, ap, ◌∙◌, refl, subst, inl, inr, append-nil, arith}
use Rattle.std.specs.Prelude.{⊤}
use Rattle.std.proofs.lemmas.Bool.Decides.{nat_tests}
use Rattle.h3_index.specs.Cell.{Address}
use Rattle.h3_index.specs.declared.error.H3Error.{H3Error}
use Rattle.h3_index.specs.declared.error.H3Error.TheVariants.{Failed}
use Rattle.h3_lines.proofs.Pages.{left_of, none_left, some_held}
use Rattle.h3_lines.proofs.PlainLines.{said_by_parsed}
use Rattle.h3_lines.specs.List.{RefusesList, Says, cells_said, lines_of, listed_as, said_as}
use Rattle.h3_lines.specs.Pieces.{Piece, lines_in, pieces_of, rows_of}
use Rattle.h3_lines.proofs.RowLines.{lines_begun, lines_numbered, numbered_cells, numbered_refused, rows_numbered}
use Rattle.h3_lines.specs.Numbered.{RefusesAt, faulty_from, faulty_line_as, without_line, without_number}
use Rattle.h3_lines.specs.Taking.{HaveCells, IsRefusal, LineState, RefusesCells, cell_list, cells_from, read_before}
use Rattle.h3_lines.specs.TakingLaws.{have_all, refuses_after}
use Rattle.h3_lines.specs.ListRead.{ListRead, ListRefused, RefusesByError, RefusesByLine}
use Rattle.h3_lines.specs.Reads.{HasNoFaultYet, IsKnownFaulty, IsListWithinReads, NoReadFails, SourceUse, StopsAtFault, StopsWithin}
use Rattle.h3_lines.specs.Splitting.{ParsesAs, RefusesAfter, StopsReading, StopsTaking, TakesAll}
use Rattle.h3_lines.specs.declared.run_error.AnswerError.{AnswerError}
use Rattle.h3_lines.specs.declared.run_error.AnswerError.TheVariants.{At}
use Rattle.h3_lines.specs.declared.run_error.Fault.{Fault as F}
use Rattle.h3_lines.specs.declared.run_error.Fault.TheVariants.{Memory, Read, Write}
use Rattle.h3_lines.specs.declared.run_error.RunError.{RunError}
use Rattle.h3_lines.specs.declared.run_error.RunError.TheVariants.{Error, Fault}

-- ---- a line

-- from two facts about what was returned without an error
pub ok_both : {T E P Q R : Type 0} (result : Result T E) → (P → Q → R) → OnOk result P → OnOk result Q → OnOk result R
ok_both (Ok v) f p q = f p q
ok_both (Err e) f p q = p

-- a line that is not faulty is read, and its cell taken, if it says one
pub line_taken : {V : Type 0} (taken : V → List Address → V → Type 0) {v w : V} (says : Says) (n : ℕ) (line : Piece)
    (said : Result (Option Address) H3Error)
    → said ≡ said_as says line.0 → IsOk said → IfOk said (λ cell. taken v (cell_list cell) w)
    → (cells : List Address) × HaveCells cells_from (says, n) (line ∷ []) cells (says, n + 1) × taken v cells w
line_taken taken says n line (Ok cell) is good takes =
    (cell_list cell, λ last more. ap (λ s. read_before n s (cells_from last (says, n + 1) more)) (sym is), takes)
line_taken taken says n line (Err e) is good takes = absurd (cc)

-- a line is refused by what it says
pub refuses_said : (says : Says) (n : ℕ) (line : Piece) (later : List Piece)
    (said : Result (Option Address) H3Error) (e : RunError)
    → said ≡ said_as says line.0
    → ((more : Result (List Address) AnswerError) → IsRefusal (read_before n said more) e)
    → RefusesCells cells_from (says, n) (line ∷ later) e
refuses_said says n line later said e is refuses last =
    subst (λ s. IsRefusal (read_before n s (cells_from last (says, n + 1) later)) e) is
    (refuses (cells_from last (says, n + 1) later))

-- a line that is too long is refused
pub refuses_long : (says : Says) (n : ℕ) (line : Piece) (later : List Piece) → 64 < length line.0
    → RefusesCells cells_from (says, n) (line ∷ later) (Error (At n Failed))
refuses_long says n line later long last =
    let over : nat_lt 64 (length line.0) ≡ true = grind (arith, nat_tests) in
    rw over refl

-- what a line says that parses as an index
pub said_parsed : (says : Says) (line : List ℕ) (index : ℕ) (said : Result (Option Address) H3Error)
    → ParsesAs line index → said ≡ says index → said ≡ said_as says line
said_parsed says line index said p is = is ∙ sym (said_by_parsed says line index p.short p.parses)

-- ---- refusals

-- the same error stands at a line
same_error : (n m : ℕ) (d e : H3Error) → At n d ≡ At m e → d ≡ e
same_error n m d e is = cc

-- an error that is there whatever comes after the bytes
known_faulty : (says : Says) (bytes : List ℕ) (e : RunError)
    → ((after : List ℕ) → RefusesAt ⊥ (listed_as says (bytes ++ after)) (faulty_line_as says (bytes ++ after)) e)
    → (e ≡ Fault Read → ⊥) → (e ≡ Fault Memory → ⊥) → IsKnownFaulty says bytes
known_faulty says bytes (Error d) refused other memory =
    let (error, is, at) = refused [] in
    (error, λ after. let (later, is', at') = refused after in is' ∙ ap Err (same_error _ _ later error (sym at' ∙ at)))
known_faulty says bytes (Fault Memory) refused other memory = absurd (memory refl)
known_faulty says bytes (Fault Read) refused other memory = absurd (other refl)
known_faulty says bytes (Fault Write) refused other memory = absurd (refused [])

-- a refusal that is reported without the number of its line fits the list
fits_unnumbered : (reads : Type 0) (list : Result (List Address) H3Error) (n : ℕ) (e : RunError)
    → RefusesAt reads list n e → RefusesList reads list (without_number e)
fits_unnumbered reads list n (Error e) (error, is, at) = (error, is, ap without_line at)
fits_unnumbered reads list n (Fault Memory) h = h
fits_unnumbered reads list n (Fault Read) h = h
fits_unnumbered reads list n (Fault Write) h = absurd h

-- it is a fault where the refusal is
same_fault : (fault : F) (e : RunError) → e ≡ Fault fault → without_number e ≡ Fault fault
same_fault fault e is = ap without_number is

fault_before : (fault : F) (e : RunError) → without_number e ≡ Fault fault → e ≡ Fault fault
fault_before fault (Error e) is = cc is
fault_before fault (Fault f) is = is

-- a list that is refused with the number of a line is refused without it
pub refused_unnumbered : (says : Says) (reads page : ℕ) (input : SourceUse) (e : RunError)
    → ListRefused says RefusesByLine reads page input e
    → ListRefused says RefusesByError reads page input (without_number e)
refused_unnumbered says reads page input e told = record {
  list = told.list;
  held = told.held;
  refused =
      fits_unnumbered ((input.has_failed ≡ true) ⊎ (reads ≤ length told.list)) (listed_as says told.list)
      (faulty_line_as says told.list) e told.refused;
  within = λ read memory. told.within (λ is. read (same_fault Read e is)) (λ is. memory (same_fault Memory e is));
  sound = λ read. told.sound (λ is. read (same_fault Read e is));
  stops = told.stops;
  faults = λ is. told.faults (fault_before Read e is);
}

-- the cells of a list that is read into an empty one
pub items_read : (says : Says) (none items cells : List Address) (reads page : ℕ) (input : SourceUse) → none ≡ []
    → items ≡ none ++ cells → ListRead says reads page input cells → ListRead says reads page input items
items_read says none items cells reads page input empty is told =
    subst (ListRead says reads page input) (sym (is ∙ ap (λ l. l ++ cells) empty)) told

-- where nothing is read
stops_at_start : (says : Says) (page : ℕ) (list : List ℕ) → StopsAtFault says page list list
stops_at_start says page list = record {
  before = [];
  last = [];
  split = refl;
  within = omega arith;
  good = record { ended = []; last = []; lines = refl; good = refl; short = omega arith };
}

-- a list that is not read, for want of memory
pub list_unread : (says : Says) (reads page : ℕ) (input : SourceUse) → input.left_after ≡ input.left
    → NoReadFails input → ListRefused says RefusesByLine reads page input (Fault Memory)
list_unread says reads page input same sound =
    let (list, held) = some_held input.left in
    record {
      list = list;
      held = held;
      refused = cc;
      within = λ read memory. absurd (memory refl);
      sound = λ read. sound;
      stops = λ list known. (list, same ∙ known, stops_at_start says page list);
      faults = λ is. cc is;
    }

-- ---- lines

is_good : (list : Result (List Address) H3Error) (cells : List Address) → list ≡ Ok cells → IsOk list
is_good list cells is = rw is refl

-- the cells of these lines
all_said : (v w : LineState) (rows : List Piece) (cells : List Address) → HaveCells cells_from v rows cells w
    → cells_said v.0 (lines_in rows) ≡ Ok cells
all_said v w rows cells have =
    numbered_cells (faulty_from v.0 v.1 (lines_in rows)) (cells_said v.0 (lines_in rows)) cells
    (sym (lines_numbered v.0 v.1 rows) ∙ have_all cells_from v w rows cells have tt ∙ ap Ok (append-nil cells))

no_fault_yet : (v w : LineState) (part : List ℕ) (ended : List Piece) (last : Piece) (cells : List Address)
    → HaveCells cells_from v ended cells w → pieces_of false part ≡ ended ++ last ∷ [] → length last.0 ≤ 64
    → HasNoFaultYet v.0 part
no_fault_yet v w part ended last cells have pieces short =
    record {
      ended = lines_in ended;
      last = last.0;
      lines = lines_begun part ended last pieces;
      good = is_good (cells_said v.0 (lines_in ended)) cells (all_said v w ended cells have);
      short = short;
    }

-- ---- how it ends

-- over what takes the cells: what it takes for an index, and the number of its next line; and which cells were taken
-- from one moment to a later one
module _ {V : Type 0} (state : V → LineState) (taken : V → List Address → V → Type 0) where
  abbrev Takes : V → List Piece → V → Type 0
  Takes v rows w = (cells : List Address) × HaveCells cells_from (state v) rows cells (state w) × taken v cells w

  abbrev Refuses : V → List Piece → V → RunError → Type 0
  Refuses v rows w e = RefusesCells cells_from (state v) rows e

  abbrev Settled : V → Type 0
  Settled v = ⊤

  -- one of the lines after them is refused
  refused_at : (reads : Type 0) (v w mid : V) (e : RunError) (ended : List Piece) (bytes : List ℕ)
      → (state v).1 ≡ 1
      → Takes v ended mid → RefusesAfter (rows_of false) Refuses mid w e ended bytes
      → RefusesAt reads (listed_as (state v).0 bytes) (faulty_line_as (state v).0 bytes) e
  refused_at reads v w mid e ended bytes first takes r =
      let all : RefusesCells cells_from (state v) (rows_of false bytes) e =
      subst (λ rows. RefusesCells cells_from (state v) rows e) (sym r.rows)
      (refuses_after cells_from (state v) (state mid) ended r.later takes.0 e takes.1 r.refuses) in
      let says = (state v).0 in
      numbered_refused reads (faulty_line_as says bytes) (listed_as says bytes) e (subst (λ l. IsRefusal l e)
      (rows_numbered says 1 bytes)
      (subst (λ n. RefusesCells cells_from (says, n) (rows_of false bytes) e) first all tt))

  -- how the taking of the lines stops that is not whole
  abbrev Stops : V → V → RunError → SourceUse → ℕ → ℕ → Type 0
  Stops v w e input reads page =
      ((e ≡ Fault Read) × StopsReading false 64 Takes Settled v w input.left input.left_after
      (input.has_failed ≡ true) reads page)
      ⊎ (StopsTaking false (rows_of false) 64 Takes Refuses Settled v w e input.left input.left_after reads page
      × NoReadFails input)

  pub list_read : (v w : V) (input : SourceUse) (reads page : ℕ)
      → TakesAll (rows_of false) Takes v w input.left input.left_after reads page → NoReadFails input
      → (cells : List Address) × ListRead (state v).0 reads page input cells × taken v cells w
  list_read v w input reads page s sound = (
    s.takes.0,
    record {
      list = s.bytes;
      held = s.held;
      within = s.within;
      is =
          numbered_cells (faulty_from (state v).0 (state v).1 (lines_of s.bytes)) (listed_as (state v).0 s.bytes)
          s.takes.0 (sym (rows_numbered (state v).0 (state v).1 s.bytes) ∙ have_all cells_from (state v) (state w)
          (rows_of false s.bytes) s.takes.0 s.takes.1 tt ∙ ap Ok (append-nil s.takes.0));
      sound = sound;
      whole = λ list is. none_left input.left input.left_after s.bytes list s.held s.consumed is;
    },
    s.takes.2,
  )

  -- how far it is read where a read fails
  stops_reading : (v w : V) (input : SourceUse) (reads page most : ℕ)
      → StopsReading false 64 Takes Settled v w input.left input.left_after (input.has_failed ≡ true) reads page
      → StopsWithin (state v).0 most input
  stops_reading v w input reads page most s list known =
      let (left, known', split) = left_of input.left input.left_after s.part list s.consumed known in (
        left,
        known',
        record {
          before = s.part;
          last = [];
          split = split ∙ ap (λ l. l ++ left) (sym (append-nil s.part));
          within = omega arith;
          good = no_fault_yet (state v) (state w) s.part s.ended s.last s.takes.0 s.takes.1 s.rows s.short;
        },
      )

  -- and where a line or memory is refused
  stops_taking : (v w : V) (e : RunError) (input : SourceUse) (reads page : ℕ)
      → StopsTaking false (rows_of false) 64 Takes Refuses Settled v w e input.left input.left_after reads page
      → StopsWithin (state v).0 page input
  stops_taking v w e input reads page s list known =
      let (left, known', split) = left_of input.left input.left_after (s.part ++ s.last) list s.consumed known in (
        left,
        known',
        record {
          before = s.part;
          last = s.last;
          split = split;
          within = s.short;
          good = no_fault_yet (state v) (state s.mid) s.part s.ended s.unended s.takes.0 s.takes.1 s.rows s.begun;
        },
      )

  -- a list that is refused before the reads end can be read, or is known to be faulty
  known_within : (v w : V) (e : RunError) (input : SourceUse) (reads page : ℕ) → (state v).1 ≡ 1
      → (s : StopsTaking false (rows_of false) 64 Takes Refuses Settled v w e input.left input.left_after reads page)
      → (e ≡ Fault Read → ⊥) → (e ≡ Fault Memory → ⊥)
      → IsListWithinReads (state v).0 reads page (s.part ++ s.last ++ s.rest)
  known_within v w e input reads page first s other memory = elim s.known [
    | inl within ↦ inl within
    | inr known ↦ inr (record {
      part = s.part ++ s.last;
      rest = s.rest;
      split = refl;
      holds = (
        known_faulty (state v).0 (s.part ++ s.last) e (λ after. refused_at ⊥ v w s.mid e s.ended
            (s.part ++ s.last ++ after) first s.takes (known after)) other memory,
        s.within,
      );
    })
  ]

  pub list_refused : (v w : V) (e : RunError) (input : SourceUse) (reads page : ℕ) → (state v).1 ≡ 1
      → Stops v w e input reads page → ListRefused (state v).0 RefusesByLine reads page input e
  list_refused v w e input reads page first (inl (is, s)) = record {
    list = s.part ++ s.rest;
    held = s.held;
    refused =
        subst
        (λ r.
        RefusesByLine (state v).0 ((input.has_failed ≡ true) ⊎ (reads ≤ length (s.part ++ s.rest)))
        (s.part ++ s.rest) r)
        (sym is) s.why;
    within = λ other memory. absurd (other is);
    sound = λ other. absurd (other is);
    stops = stops_reading v w input reads page page s;
    faults = λ read. stops_reading v w input reads page 0 s;
  }
  list_refused v w e input reads page first (inr (s, kept)) =
      let list = s.part ++ s.last ++ s.rest in
      record {
        list = list;
        held = s.held;
        refused =
            refused_at
            ((input.has_failed ≡ true) ⊎ (reads ≤ length list)) v w s.mid e s.ended list first s.takes s.refuses;
        within = known_within v w e input reads page first s;
        sound = λ other. kept;
        stops = stops_taking v w e input reads page s;
        faults =
            λ read. absurd
            (subst (λ r. RefusesCells cells_from (state s.mid) s.refuses.later r) read s.refuses.refuses tt);
      }
