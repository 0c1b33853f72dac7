-- The reading so far
use Rattle.std.proofs.Common.{◌≡◌, ◌+◌, ◌-◌, ℕ, Option, Some, None, List, [], ◌∷◌, ◌++◌, length, refl, arith, ◌∙◌, ap, append_assoc, append-nil, length-append}
use Rattle.csv.specs.Machine.{next_record}
use Rattle.csv.specs.Reading.{Reached, records_from, default_config, strip_bom}
use Rattle.csv.specs.declared.parser.State.{State}
use Rattle.csv.specs.declared.parser.State.TheVariants as st
use Rattle.h3_directions.specs.declared.error.TableError.{TableError}
use Rattle.h3_directions.specs.declared.error.TableError.TheVariants as fault
use Rattle.h3_table.specs.declared.format.Format.{Format}
use Rattle.h3_table.specs.Fields.{Record, records_of}
use Rattle.h3_table.specs.Format.{header_format, format_after}
use Rattle.h3_table.specs.Records.{body_of, fault_of, fault_of_records, first_fault, format_of}
use Rattle.h3_table.specs.Slots.{Holds}
use Rattle.h3_table.proofs.RecordLaws.{all-front, none-after}

-- a front of the file was read: the header of this format and these records, none faulty, and the slots hold their
-- links
pub record IsRead (text : List ℕ) (format : Format) (number : ℕ) (slots : List (Option (ℕ × ℕ))) (s : State)
    (y : List ℕ) : Type 0 where
  pub front : Record
  pub header_is : header_format front ≡ Some format
  pub body : List Record
  pub reached : Reached default_config st.StartRecord (strip_bom text) (front ∷ body) s y
  pub counted : length body + 1 ≡ number
  pub holds : Holds format slots body
  pub good : (rest : List Record) → first_fault [] ((front ∷ body) ++ rest) ≡ first_fault (front ∷ body) rest

pub format-under : (front : Record) (format : Format) → header_format front ≡ Some format → format_after front ≡ format
format-under front format e = rw e refl

-- a record that isn't faulty is passed over
pub fault-passed : (before rest : List Record) (r : Record) → fault_of before r ≡ None
    → first_fault before (r ∷ rest) ≡ first_fault (before ++ (r ∷ [])) rest
unfolding first_fault
fault-passed before rest r e = rw e refl

pub fault-first : (before rest : List Record) (r : Record) (e : TableError) → fault_of before r ≡ Some e
    → first_fault before (r ∷ rest) ≡ Some e
unfolding first_fault
fault-first before rest r e h = rw h refl

pub first-none : (before : List Record) → first_fault before [] ≡ None
unfolding first_fault
first-none before = refl

-- the first record isn't the header
pub header-faulty : (text : List ℕ) (front : Record) (s : State) (y : List ℕ)
    → Reached default_config st.StartRecord (strip_bom text) (front ∷ []) s y
    → header_format front ≡ None → fault_of_records (records_of text) ≡ Some (fault.Form 1)
header-faulty text front s y h e =
    let all = all-front text (front ∷ []) s y h in
    rw all (fault-first [] _ front (fault.Form 1) (rw e refl))

pub no-header : (text : List ℕ) → next_record default_config st.StartRecord [] [] (strip_bom text) ≡ None
    → fault_of_records (records_of text) ≡ Some (fault.Form 1)
no-header text e =
    let all = none-after default_config (length (strip_bom text) + 1) st.StartRecord (strip_bom text) e in
    rw all refl

pub read-start : (text : List ℕ) (format : Format) (front : Record) (slots : List (Option (ℕ × ℕ))) (s : State)
    (y : List ℕ)
    → Reached default_config st.StartRecord (strip_bom text) (front ∷ []) s y → header_format front ≡ Some format
    → Holds format slots [] → IsRead text format 1 slots s y
read-start text format front slots s y h e k = record {
  front = front;
  header_is = e;
  body = [];
  reached = h;
  counted = omega arith;
  holds = k;
  good = λ rest. fault-passed [] rest front (rw e refl);
}

-- the fault of the next record is that of the file
pub read-faulty : (text : List ℕ) (format : Format) (number : ℕ) (slots : List (Option (ℕ × ℕ))) (s s2 : State)
    (y z : List ℕ) (w : IsRead text format number slots s y) (r : Record) (e : TableError)
    → Reached default_config st.StartRecord (strip_bom text) ((w.front ∷ w.body) ++ (r ∷ [])) s2 z
    → fault_of (w.front ∷ w.body) r ≡ Some e → fault_of_records (records_of text) ≡ Some e
read-faulty text format number slots s s2 y z w r e h f =
    let all = all-front text ((w.front ∷ w.body) ++ (r ∷ [])) s2 z h in
    let tail =
    records_from default_config (length (strip_bom text) + 1 - length ((w.front ∷ w.body) ++ (r ∷ []))) s2 z in
    rw (all, append_assoc w.body (r ∷ []) tail) (w.good (r ∷ tail) ∙ fault-first (w.front ∷ w.body) tail r e f)

pub read-more : (text : List ℕ) (format : Format) (number : ℕ) (slots slots2 : List (Option (ℕ × ℕ))) (s s2 : State)
    (y z : List ℕ) (w : IsRead text format number slots s y) (r : Record)
    → Reached default_config st.StartRecord (strip_bom text) ((w.front ∷ w.body) ++ (r ∷ [])) s2 z
    → fault_of (w.front ∷ w.body) r ≡ None → Holds format slots2 (w.body ++ (r ∷ []))
    → IsRead text format (number + 1) slots2 s2 z
read-more text format number slots slots2 s s2 y z w r h f k = record {
  front = w.front;
  header_is = w.header_is;
  body = w.body ++ (r ∷ []);
  reached = h;
  counted =
      let e : length (w.body ++ (r ∷ [])) ≡ length w.body + 1 = length-append w.body (r ∷ []) in
      let k : length w.body + 1 ≡ number = w.counted in omega arith;
  holds = k;
  good = λ rest. rw (append_assoc w.body (r ∷ []) rest) (w.good (r ∷ rest) ∙ fault-passed (w.front ∷ w.body) rest r f);
}

pub read-end : (text : List ℕ) (format : Format) (number : ℕ) (slots : List (Option (ℕ × ℕ))) (s : State) (y : List ℕ)
    → IsRead text format number slots s y
    → next_record default_config s [] [] y ≡ None
    → (fault_of_records (records_of text) ≡ None)
    × Holds (format_of (records_of text)) slots (body_of (records_of text))
read-end text format number slots s y w e =
    let all = all-front text (w.front ∷ w.body) s y w.reached in
    let none = none-after default_config (length (strip_bom text) + 1 - length (w.front ∷ w.body)) s y e in
    let same : records_of text ≡ (w.front ∷ w.body) ++ [] =
    all ∙ ap (λ (t : List Record). (w.front ∷ w.body) ++ t) none in
    let under : format_after w.front ≡ format = format-under w.front format w.header_is in
    (rw same (w.good [] ∙ first-none (w.front ∷ w.body)), rw (same, append-nil w.body, under) w.holds)
