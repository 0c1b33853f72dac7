-- One more record of the reading
use Rattle.std.proofs.Common.{◌≡◌, ◌≤◌, ◌+◌, ℕ, Bool, true, false, Option, Some, None, List, [], ◌∷◌, ◌++◌, length, arith, refl, sym, ◌∙◌, length-append, slice_index_or}
use Rattle.std.specs.Prelude.{IfSome, if◌then◌else◌}
use Rattle.csv.specs.Reading.{Reached, default_config, strip_bom, is_bom}
use Rattle.csv.specs.declared.parser.State.{State}
use Rattle.csv.specs.declared.parser.State.TheVariants as st
use Rattle.h3_directions.specs.declared.error.TableError.{TableError}
use Rattle.h3_table.specs.declared.format.Format.{Format}
use Rattle.h3_table.specs.Fields.{Record, numbers_in, records_of}
use Rattle.h3_table.specs.Format.{header_format, format_after, width}
use Rattle.h3_table.specs.Links.{slot_of}
use Rattle.h3_table.specs.Records.{fault_in, fault_of, fault_of_records}
use Rattle.h3_table.specs.Slots.{Holds, SetsLinks}
use Rattle.h3_table.proofs.RecordLaws.{reached-few}
use Rattle.h3_table.proofs.ReadingLaws.{IsRead, read-faulty, read-more, format-under}
use Rattle.h3_table.proofs.SlotLaws.{holds-more, fault-held}

taken-holds : (format : Format) (slots new : List (Option (ℕ × ℕ))) (body : List Record) (r : Record) (row : ℕ)
    (o : Option (List ℕ))
    → Holds format slots body → o ≡ numbers_in (width format) r
    → fault_in format row (λ b d. slice_index_or slots (slot_of b d) None) o ≡ None
    → IfSome o (λ ns. SetsLinks format ns slots new) → Holds format new (body ++ (r ∷ []))
taken-holds format slots new body r row None h e f k = cc f
taken-holds format slots new body r row (Some ns) h e f k = holds-more format slots new body r ns row h (sym e) f k

fault-is : (format : Format) (slots : List (Option (ℕ × ℕ))) (front r : Record) (body : List Record) (number : ℕ)
    → header_format front ≡ Some format → Holds format slots body → length body + 1 ≡ number
    → fault_of (front ∷ body) r
    ≡ fault_in format (number + 1) (λ b d. slice_index_or slots (slot_of b d) None) (numbers_in (width format) r)
fault-is format slots front r body number t h c =
    let n : length body + 2 ≡ number + 1 = omega arith in
    let under : format_after front ≡ format = format-under front format t in
    rw (under, n) (sym (fault-held format slots body (number + 1) (numbers_in (width format) r) h))

pub step-good : (text : List ℕ) (format : Format) (number : ℕ) (slots new : List (Option (ℕ × ℕ))) (s s2 : State)
    (y z : List ℕ) (w : IsRead text format number slots s y) (r : Record)
    → Reached default_config st.StartRecord (strip_bom text) ((w.front ∷ w.body) ++ (r ∷ [])) s2 z
    → fault_in format (number + 1) (λ b d. slice_index_or slots (slot_of b d) None) (numbers_in (width format) r) ≡ None
    → IfSome (numbers_in (width format) r) (λ ns. SetsLinks format ns slots new)
    → IsRead text format (number + 1) new s2 z
step-good text format number slots new s s2 y z w r h f k =
    read-more text format number slots new s s2 y z w r h
    (fault-is format slots w.front r w.body number w.header_is w.holds w.counted ∙ f)
    (taken-holds format slots new w.body r (number + 1) (numbers_in (width format) r) w.holds refl f k)

pub step-bad : (text : List ℕ) (format : Format) (number : ℕ) (slots : List (Option (ℕ × ℕ))) (s s2 : State)
    (y z : List ℕ) (w : IsRead text format number slots s y) (r : Record) (fault : TableError)
    → Reached default_config st.StartRecord (strip_bom text) ((w.front ∷ w.body) ++ (r ∷ [])) s2 z
    → fault_in format (number + 1) (λ b d. slice_index_or slots (slot_of b d) None) (numbers_in (width format) r)
    ≡ Some fault
    → fault_of_records (records_of text) ≡ Some fault
step-bad text format number slots s s2 y z w r fault h f =
    read-faulty text format number slots s s2 y z w r fault h
    (fault-is format slots w.front r w.body number w.header_is w.holds w.counted ∙ f)

strip_if : (b : Bool) (x y : List ℕ) → length x ≤ length y → length (if b then x else y) ≤ length y
strip_if true x y h = h
strip_if false x y h = omega arith

pub strip-shorter : (xs : List ℕ) → length (strip_bom xs) ≤ length xs
unfolding strip_bom
strip-shorter [] = omega arith
strip-shorter (a ∷ []) = omega arith
strip-shorter (a ∷ b ∷ []) = omega arith
strip-shorter (a ∷ b ∷ c ∷ rest) = strip_if (is_bom a b c) rest (a ∷ b ∷ c ∷ rest) (omega arith)

pub number-below : (text : List ℕ) (format : Format) (number : ℕ) (slots : List (Option (ℕ × ℕ))) (s s2 : State)
    (y z : List ℕ) (w : IsRead text format number slots s y) (r : Record)
    → Reached default_config st.StartRecord (strip_bom text) ((w.front ∷ w.body) ++ (r ∷ [])) s2 z
    → number + 1 ≤ length text + 1
number-below text format number slots s s2 y z w r h =
    let few = reached-few default_config ((w.front ∷ w.body) ++ (r ∷ [])) st.StartRecord s2 (strip_bom text) z h in
    let e : length (w.body ++ (r ∷ [])) ≡ length w.body + 1 = length-append w.body (r ∷ []) in
    let k : length w.body + 1 ≡ number = w.counted in
    let l = strip-shorter text in omega arith
