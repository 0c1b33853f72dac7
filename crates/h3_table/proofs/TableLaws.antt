-- A file's first error, and its table.
use Rattle.std.proofs.Common.{◌≡◌, ◌<◌, ℕ, Option, Some, None, List, refl, arith, sym, ◌∙◌, ap, subst, slice_index_or, inl, inr}
use Rattle.std.specs.Prelude.{is_some, unwrap_or}
use Rattle.std.specs.Option.{option_or}
use Rattle.h3_directions.specs.declared.error.TableError.{TableError}
use Rattle.h3_directions.specs.declared.error.TableError.TheVariants as fault
use Rattle.h3_directions.specs.Direction.{digit_of}
use Rattle.h3_table.specs.Fields.{Record, records_of}
use Rattle.h3_table.specs.declared.links.Link.{Link}
use Rattle.h3_table.specs.Links.{Links, links_in, no_link, pair_of, slot_of}
use Rattle.h3_table.specs.Checks.{at_links, fault_of_links, error_unless}
use Rattle.h3_table.specs.Records.{body_of, fault_of_records, format_of}
use Rattle.h3_table.specs.Slots.{Holds, IsFaultOrMemory, StopsReading, missing_at}
use Rattle.h3_table.specs.Table.{RefusesTable, links_of, missing_of, table_fault}
use Rattle.h3_table.proofs.KindLaws.{kind, table_fault-kind}
use Rattle.h3_table.proofs.SoundLaws.{digit_of-gt, digit_of-lt}

-- the links are those of the slots, and lead to base cell 0 where none is known
abbrev pub AreFilled : List (Option (ℕ × ℕ)) → List Link → Type 0
AreFilled slots links =
    (i : ℕ) → pair_of (slice_index_or links i no_link) ≡ unwrap_or (slice_index_or slots i None) (0, 0)

refuses_kind : (fails : Type 0) (first : Option TableError) (e : TableError) → 0 < kind e → first ≡ Some e
    → RefusesTable fails first e
refuses_kind fails first fault.Read k is = absurd (omega arith)
refuses_kind fails first fault.Memory k is = tt
refuses_kind fails first (fault.Form row) k is = is
refuses_kind fails first (fault.Range row) k is = is
refuses_kind fails first (fault.Repeated row) k is = is
refuses_kind fails first fault.Missing k is = is
refuses_kind fails first (fault.Neighbours b) k is = is
refuses_kind fails first (fault.Reversal b d) k is = is
refuses_kind fails first (fault.Corner b d) k is = is

refuses_file : (fails : Type 0) (records : List Record) (e : TableError) → table_fault records ≡ Some e
    → RefusesTable fails (table_fault records) e
refuses_file fails records e is = refuses_kind fails (table_fault records) e (table_fault-kind records e is) is

-- ---- the slots hold the links of the records

missing-same : (slots : List (Option (ℕ × ℕ))) (records : List Record)
    → Holds (format_of records) slots (body_of records) → at_links (missing_at slots) ≡ at_links (missing_of records)
missing-same slots records h =
    ap at_links (λ i b d.
    ap (λ (o : Option (ℕ × ℕ)). error_unless (is_some o) fault.Missing)
    (h.same b (digit_of d) (digit_of-gt d) (digit_of-lt d)) i)

pub links-same : (slots : List (Option (ℕ × ℕ))) (links : List Link) (records : List Record)
    → Holds (format_of records) slots (body_of records) → AreFilled slots links → links_in links ≡ links_of records
unfolding links_in
links-same slots links records h same =
    λ i b d.
    (same (slot_of b (digit_of d))
    ∙ ap (λ (o : Option (ℕ × ℕ)). unwrap_or o (0, 0)) (h.same b (digit_of d) (digit_of-gt d) (digit_of-lt d)))
    i

-- ---- the file's fault, part by part

next_some : (a b : Option TableError) (e : TableError) → a ≡ Some e → option_or a b ≡ Some e
next_some a b e is = rw is refl

next_none : (a b : Option TableError) → a ≡ None → option_or a b ≡ b
next_none a b is = rw is refl

table_fault-missing : (records : List Record) (o : Option TableError) → fault_of_records records ≡ None
    → at_links (missing_of records) ≡ o → table_fault records ≡ option_or o (fault_of_links (links_of records))
table_fault-missing records o none is =
    next_none (fault_of_records records) (option_or (at_links (missing_of records)) (fault_of_links (links_of records)))
    none
    ∙ ap (λ (p : Option TableError). option_or p (fault_of_links (links_of records))) is

-- ---- how the reading of a file ends

pub stops : (fails : Type 0) (first : Option TableError) (e : TableError) → StopsReading fails e
    → RefusesTable fails first e
stops fails first e (inl memory) = subst (λ e. RefusesTable fails first e) (sym memory) tt
stops fails first e (inr read) = subst (λ e. RefusesTable fails first e) (sym read.0) read.1

pub refuses_records : (fails : Type 0) (text bytes : List ℕ) (e : TableError) → text ≡ bytes
    → IsFaultOrMemory (fault_of_records (records_of text)) e → RefusesTable fails (table_fault (records_of bytes)) e
refuses_records fails text bytes e same (inl memory) =
    subst (λ e. RefusesTable fails (table_fault (records_of bytes)) e) (sym memory) tt
refuses_records fails text bytes e same (inr is) =
    let first_is : fault_of_records (records_of bytes) ≡ Some e =
    ap (λ (t : List ℕ). fault_of_records (records_of t)) (sym same) ∙ is in
    refuses_file fails (records_of bytes) e (next_some (fault_of_records (records_of bytes)) _ e first_is)

-- the records of the text that was read are good, and the slots hold their links
abbrev pub IsGood : List (Option (ℕ × ℕ)) → List ℕ → Type 0
IsGood slots text =
    (fault_of_records (records_of text) ≡ None) × Holds (format_of (records_of text)) slots (body_of (records_of text))

pub refuses_missing : (fails : Type 0) (slots : List (Option (ℕ × ℕ))) (text bytes : List ℕ) (o : Option TableError)
    (e : TableError)
    → text ≡ bytes → IsGood slots text
    → o ≡ at_links (missing_at slots) → o ≡ Some e → RefusesTable fails (table_fault (records_of bytes)) e
refuses_missing fails slots text bytes o e same good first is =
    let good' : IsGood slots bytes = subst (IsGood slots) same good in
    refuses_file fails (records_of bytes) e
    (table_fault-missing (records_of bytes) (Some e) good'.0
    (sym (missing-same slots (records_of bytes) good'.1) ∙ sym first ∙ is))

-- the error of the filled slots is that of the file
table_fault-links : (slots : List (Option (ℕ × ℕ))) (links : List Link) (records : List Record)
    (o p : Option TableError)
    → fault_of_records records ≡ None → Holds (format_of records) slots (body_of records)
    → o ≡ at_links (missing_at slots) → o ≡ None
    → AreFilled slots links
    → fault_of_links (links_in links) ≡ p → table_fault records ≡ p
table_fault-links slots links records o p none holds first full same is =
    table_fault-missing records None none (sym (missing-same slots records holds) ∙ sym first ∙ full)
    ∙ sym (ap fault_of_links (links-same slots links records holds same)) ∙ is

pub refuses_links : (fails : Type 0) (slots : List (Option (ℕ × ℕ))) (links : List Link) (text bytes : List ℕ)
    (o : Option TableError) (e : TableError)
    → text ≡ bytes → IsGood slots text
    → o ≡ at_links (missing_at slots) → o ≡ None
    → AreFilled slots links
    → fault_of_links (links_in links) ≡ Some e → RefusesTable fails (table_fault (records_of bytes)) e
refuses_links fails slots links text bytes o e same good first full filled is =
    let good' : IsGood slots bytes = subst (IsGood slots) same good in
    refuses_file fails (records_of bytes) e
    (table_fault-links slots links (records_of bytes) o (Some e) good'.0 good'.1 first full filled is)

pub accepts : (slots : List (Option (ℕ × ℕ))) (links : List Link) (text bytes : List ℕ) (o : Option TableError)
    (link : Links)
    → text ≡ bytes → IsGood slots text
    → o ≡ at_links (missing_at slots) → o ≡ None
    → AreFilled slots links
    → fault_of_links (links_in links) ≡ None → link ≡ links_in links
    → (table_fault (records_of bytes) ≡ None) × (link ≡ links_of (records_of bytes))
accepts slots links text bytes o link same good first full filled none is =
    let good' : IsGood slots bytes = subst (IsGood slots) same good in (
      table_fault-links slots links (records_of bytes) o None good'.0 good'.1 first full filled none,
      is ∙ links-same slots links (records_of bytes) good'.1 filled,
    )

-- a file that is refused without a read fault is refused
pub refuses_more : (fails : Type 0) (first : Option TableError) (e : TableError) → RefusesTable ⊥ first e
    → RefusesTable fails first e
refuses_more fails first fault.Read is = absurd is
refuses_more fails first fault.Memory is = is
refuses_more fails first (fault.Form row) is = is
refuses_more fails first (fault.Range row) is = is
refuses_more fails first (fault.Repeated row) is = is
refuses_more fails first fault.Missing is = is
refuses_more fails first (fault.Neighbours b) is = is
refuses_more fails first (fault.Reversal b d) is = is
refuses_more fails first (fault.Corner b d) is = is
