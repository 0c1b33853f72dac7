use Rattle.std.proofs.Common.{◌≤◌, ◌+◌, ◌∙◌, ℕ, Bor, List, Some, None, ◌∷◌, [], sym, refl, arith, inl, inr, length}
use Rattle.std.specs.Prelude.{Option, IfSome}
use Rattle.std.proofs.lemmas.List.Elements.{All-replicate}
use Rattle.csv.specs.Reading.{Reached, default_config, strip_bom}
use Rattle.csv.specs.Records.{fields_of}
use Rattle.csv.specs.declared.parser.State.TheVariants as st
use Rattle.csv.proofs.ReadFacts.{rows-end, rows-more}
use Rattle.h3_table.specs.Links.{IsLink}
use Rattle.h3_table.proofs.ReadingLaws.{header-faulty, no-header, read-start, read-end}
use Rattle.h3_table.proofs.SlotLaws.{holds-none}
use Rattle.h3_table.proofs.TakingLaws.{step-good, step-bad, number-below}
use Rattle.h3_table.proofs.records.read_records.Goals as goal

pub returns-then-not-found-clause-refused : goal.returns-then-not-found-clause-refused
returns-then-not-found-clause-refused c =
    let fr = c.from_reader-reader.ensures in
    let config = (rw (c.flexible.ensures, c.has_headers.ensures) at fr.config) ∙ c.new.ensures.config in
    let trim = (rw (c.flexible.ensures, c.has_headers.ensures) at fr.trim) ∙ c.new.ensures.trim in
    let headers = rw (c.flexible.ensures, c.has_headers.ensures) at fr.has_headers in
    let read =
    rw c.if-not-found.true
    at ((rw c.in-Ok.is at c.read_byte_record.ensures.reads) trim (inr (inr (headers, fr.headers)))) in
    inr (no-header c.args.text.now (rw fr.state
    at (rows-end (λ (s : Bor (List ℕ)). Some s.now) c.from_reader-reader.result c.read_byte_record.new.self
    (fields_of c.read_byte_record.new.row) default_config (strip_bom c.args.text.now) config fr.source read)))

pub returns-in_default-header_format-clause-refused : goal.returns-in_default-header_format-clause-refused
unfolding Reached
returns-in_default-header_format-clause-refused c =
    let fr = c.from_reader-reader.ensures in
    let config = (rw (c.flexible.ensures, c.has_headers.ensures) at fr.config) ∙ c.new.ensures.config in
    let trim = (rw (c.flexible.ensures, c.has_headers.ensures) at fr.trim) ∙ c.new.ensures.trim in
    let headers = rw (c.flexible.ensures, c.has_headers.ensures) at fr.has_headers in
    let read =
    rw c.if-not-found.false
    at ((rw c.in-Ok.is at c.read_byte_record.ensures.reads) trim (inr (inr (headers, fr.headers)))) in
    let m =
    rows-more (λ (s : Bor (List ℕ)). Some s.now) c.from_reader-reader.result c.read_byte_record.new.self
    (fields_of c.read_byte_record.new.row) default_config st.StartRecord (strip_bom c.args.text.now)
    (strip_bom c.args.text.now) [] config fr.source (sym fr.state, refl) read in
    inr (header-faulty c.args.text.now (fields_of c.read_byte_record.new.row) c.read_byte_record.new.self.state m.0 m.2
    (sym c.header_format.ensures ∙ c.in_default-header_format.is))

pub loop-found-init : goal.loop-found-init
unfolding Reached
loop-found-init c =
    let fr = c.from_reader-reader.ensures in
    let config = (rw (c.flexible.ensures, c.has_headers.ensures) at fr.config) ∙ c.new.ensures.config in
    let trim = (rw (c.flexible.ensures, c.has_headers.ensures) at fr.trim) ∙ c.new.ensures.trim in
    let headers = rw (c.flexible.ensures, c.has_headers.ensures) at fr.has_headers in
    let read =
    rw c.if-not-found.false
    at ((rw c.in-Ok.is at c.read_byte_record.ensures.reads) trim (inr (inr (headers, fr.headers)))) in
    let m =
    rows-more (λ (s : Bor (List ℕ)). Some s.now) c.from_reader-reader.result c.read_byte_record.new.self
    (fields_of c.read_byte_record.new.row) default_config st.StartRecord (strip_bom c.args.text.now)
    (strip_bom c.args.text.now) [] config fr.source (sym fr.state, refl) read in
    let ready = (rw c.in-Ok.is at c.read_byte_record.ensures.ready) trim in (
      read.3 ∙ trim,
      inl ready,
      read.2 ∙ config,
      m.0,
      m.1,
      read-start c.args.text.now c.in-Some.format (fields_of c.read_byte_record.new.row) _
          c.read_byte_record.new.self.state m.0 m.2 (sym c.header_format.ensures ∙ c.in-Some.is)
          (holds-none c.in-Some.format),
      All-replicate (λ (slot : Option (ℕ × ℕ)). IfSome slot IsLink) 732 None tt,
    )

pub returns-then-not-found-2-clause-read : goal.returns-then-not-found-2-clause-read
returns-then-not-found-2-clause-read c =
    let inv = c.loop-found.invariant in
    let read =
    rw c.if-not-found-2.true
    at ((rw c.in-Ok-read_byte_record.is at c.read_byte_record-in-loop-found.ensures.reads) inv.0 inv.1) in
    read-end c.args.text.now c.in-Some.format c.loop-found.number c.loop-found.slots c.loop-found.reader.state inv.3
    inv.5
    (rows-end (λ (s : Bor (List ℕ)). Some s.now) c.loop-found.reader c.read_byte_record-in-loop-found.new.self
    (fields_of c.read_byte_record-in-loop-found.new.row) default_config inv.3 inv.2 inv.4 read)

pub overflow_add-number : goal.overflow_add-number
overflow_add-number c =
    let inv = c.loop-found.invariant in
    let row = fields_of c.read_byte_record-in-loop-found.new.row in
    let read =
    rw c.if-not-found-2.false
    at ((rw c.in-Ok-read_byte_record.is at c.read_byte_record-in-loop-found.ensures.reads) inv.0 inv.1) in
    let m =
    rows-more (λ (s : Bor (List ℕ)). Some s.now) c.loop-found.reader c.read_byte_record-in-loop-found.new.self row
    default_config st.StartRecord (strip_bom c.args.text.now) inv.3 (inv.5.front ∷ inv.5.body) inv.2 inv.4
    inv.5.reached read in
    let below : c.loop-found.number + 1 ≤ length c.args.text.now + 1 =
    number-below c.args.text.now c.in-Some.format c.loop-found.number c.loop-found.slots c.loop-found.reader.state
    c.read_byte_record-in-loop-found.new.self.state inv.3 m.0 inv.5 row m.2 in
    omega arith

pub loop-found-smaller : goal.loop-found-smaller
loop-found-smaller c =
    let inv = c.loop-found.invariant in
    let row = fields_of c.read_byte_record-in-loop-found.new.row in
    let read =
    rw c.if-not-found-2.false
    at ((rw c.in-Ok-read_byte_record.is at c.read_byte_record-in-loop-found.ensures.reads) inv.0 inv.1) in
    let m =
    rows-more (λ (s : Bor (List ℕ)). Some s.now) c.loop-found.reader c.read_byte_record-in-loop-found.new.self row
    default_config st.StartRecord (strip_bom c.args.text.now) inv.3 (inv.5.front ∷ inv.5.body) inv.2 inv.4
    inv.5.reached read in
    let below : c.loop-found.number + 1 ≤ length c.args.text.now + 1 =
    number-below c.args.text.now c.in-Some.format c.loop-found.number c.loop-found.slots c.loop-found.reader.state
    c.read_byte_record-in-loop-found.new.self.state inv.3 m.0 inv.5 row m.2 in
    omega arith

pub loop-found-preserved : goal.loop-found-preserved
loop-found-preserved c =
    let inv = c.loop-found.invariant in
    let row = fields_of c.read_byte_record-in-loop-found.new.row in
    let read =
    rw c.if-not-found-2.false
    at ((rw c.in-Ok-read_byte_record.is at c.read_byte_record-in-loop-found.ensures.reads) inv.0 inv.1) in
    let ready = (rw c.in-Ok-read_byte_record.is at c.read_byte_record-in-loop-found.ensures.ready) inv.0 in
    let m =
    rows-more (λ (s : Bor (List ℕ)). Some s.now) c.loop-found.reader c.read_byte_record-in-loop-found.new.self row
    default_config st.StartRecord (strip_bom c.args.text.now) inv.3 (inv.5.front ∷ inv.5.body) inv.2 inv.4
    inv.5.reached read in
    let good = rw c.in-Ok-take.is at c.take.ensures.taken in (
      read.3 ∙ inv.0,
      inl ready,
      read.2 ∙ inv.2,
      m.0,
      m.1,
      step-good c.args.text.now c.in-Some.format c.loop-found.number c.loop-found.slots c.take.new.slots
          c.loop-found.reader.state c.read_byte_record-in-loop-found.new.self.state inv.3 m.0 inv.5 row m.2 good.0
          good.1,
      c.take.ensures.within inv.6,
    )

pub returns-in-Err-clause-refused : goal.returns-in-Err-clause-refused
returns-in-Err-clause-refused c =
    let inv = c.loop-found.invariant in
    let row = fields_of c.read_byte_record-in-loop-found.new.row in
    let read =
    rw c.if-not-found-2.false
    at ((rw c.in-Ok-read_byte_record.is at c.read_byte_record-in-loop-found.ensures.reads) inv.0 inv.1) in
    let m =
    rows-more (λ (s : Bor (List ℕ)). Some s.now) c.loop-found.reader c.read_byte_record-in-loop-found.new.self row
    default_config st.StartRecord (strip_bom c.args.text.now) inv.3 (inv.5.front ∷ inv.5.body) inv.2 inv.4
    inv.5.reached read in
    inr (step-bad c.args.text.now c.in-Some.format c.loop-found.number c.loop-found.slots c.loop-found.reader.state
    c.read_byte_record-in-loop-found.new.self.state inv.3 m.0 inv.5 row c.in-Err.fault m.2
    (rw c.in-Err.is at c.take.ensures.refused))
