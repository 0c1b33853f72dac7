-- Plain rows whose cells are taken.
use Rattle.std.proofs.Common.{◌≡◌, ℕ, ◌+◌, ◌<◌, ◌≤◌, ◌==◌, nat_lt, Bool, true, false, not, ◌∷◌, ◌++◌, List, [], length, replicate, None, Some, Ok, sym, ap, ◌∙◌, refl, arith}
use Rattle.std.proofs.lemmas.Bool.Decides.{nat_tests}
use mathlib.Core.Bool.{beq}
use Rattle.h3_index.specs.Cell.{Address}
use Rattle.h3_lines.specs.Pieces.{CutsAt}
use Rattle.h3_lines.specs.Taking.{HaveCells}
use Rattle.h3_rows.specs.Cells.{called, cell_read}
use Rattle.h3_rows.specs.CellsIn.{cells_in}
use Rattle.h3_rows.specs.Named.{Table, named_row}
use Rattle.h3_rows.specs.NamedIn.{IsPlainEntry, named_in}
use Rattle.h3_rows.specs.Plain.{IsPlainCell, IsPlainField, IsPlainRow}
use Rattle.h3_rows.specs.Row.{is_empty_row, next_number, read_of, row_body}
use Rattle.h3_rows.specs.RowsAnswer.{Form, malformed, row_cell, text_cell}
use Rattle.h3_rows.specs.declared.row_cell.RowCell.TheVariants.{Index}
use Rattle.h3_rows.specs.declared.state.Columns.{Columns}
use Rattle.h3_rows.specs.declared.state.RowState.{RowState}
use Rattle.h3_rows.specs.declared.table.TableColumns.{TableColumns}
use Rattle.h3_rows.specs.declared.table.TableState.{TableState}
use Rattle.h3_rows.proofs.Returns.{body_of_row, row_length}
use Rattle.h3_rows.proofs.Texts.{text_cell_parsed}
use Rattle.h3_rows.proofs.WholeFields.{row_bare, row_feeds, row_returnless, row_sound, row_uncut}

-- ---- what a plain row that is not the first one says

module _ (form : Form) (number : ℕ) (k : Columns) (later : number ≡ 1 → ⊥) where
  pub not_first : (number == 1) ≡ false
  not_first = grind (arith, nat_tests)

  module _ (bytes row field : List ℕ) (n : ℕ) (p : IsPlainRow form.separator form.quotes k bytes row n field) where
    pub plain_body : row_body (row ++ replicate n 13) ≡ row
    plain_body = body_of_row row n (row_bare row p.whole.on_line)

    pub plain_read : read_of number row ≡ row
    plain_read = rw not_first refl

    pub plain_sound : length row ≤ 1048575 → malformed form number (row ++ replicate n 13, false) ≡ None
    plain_sound few =
        let short : nat_lt 1048575 (length row) ≡ false = grind (arith, nat_tests) in
        let less : length (row ++ replicate n 13) ≤ 1114111 = omega (arith, row_length row n, p.few, few) in
        let small : nat_lt 1114111 (length (row ++ replicate n 13)) ≡ false = grind (arith, nat_tests) in
        rw (
          plain_body,
          plain_read,
          short,
          small,
          row_returnless form.quotes row p.whole.on_line,
          row_sound form.separator form.quotes row p.whole,
        ) refl

    pub plain_filled : 0 < length row → is_empty_row number row ≡ false
    plain_filled some =
        let long : (length row == 0) ≡ false = grind (arith, nat_tests) in
        ap (λ l. length l == 0) plain_read ∙ long

    pub plain_said : (index : ℕ) → IsPlainField form.quotes field index → row_cell form number k row ≡ Ok (Index index)
    plain_said index plain =
        rw (
          plain_read,
          p.as_wide,
          p.field_is,
        ) (ap text_cell plain.text_is ∙ sym (text_cell_parsed plain.text index plain.parses))

    pub plain_cell : (index : ℕ) (cell : Address) → IsPlainField form.quotes field index
        → form.says index ≡ Ok (Some cell)
        → 0 < length row → length row ≤ 1048575 → IsPlainCell form number k bytes row n cell
    plain_cell index cell plain is some few = record {
      after = p.after;
      split = p.split;
      few = p.few;
      whole = row_uncut form.separator form.quotes row n p.whole;
      feedless = row_feeds row n p.whole.on_line;
      sound = plain_sound few;
      body_is = plain_body;
      read_is = plain_read;
      filled = plain_filled some;
      cell_is = ap (cell_read form.says) (plain_said index plain) ∙ ap called is;
    }

pub same_quotes : (p q : Bool) → not (beq p q) ≡ false → p ≡ q
same_quotes true true h = refl
same_quotes true false h = absurd (cc)
same_quotes false true h = absurd (cc)
same_quotes false false h = refl

-- ---- its cell is taken

module _ (form : Form) (number : ℕ) (k : Columns) (bytes row : List ℕ) (n : ℕ) (cell : Address)
    (p : IsPlainCell form number k bytes row n cell) where
  -- it ends at its line feed, whether quotes count or not
  pub cell_cuts : (quotes : Bool) → not (beq quotes form.quotes) ≡ false
      → CutsAt 10 quotes false bytes (row ++ replicate n 13) p.after
  cell_cuts quotes is = record { begins = rw (same_quotes quotes form.quotes is) p.whole; split = p.split }

  pub next_row : next_number number (row ++ replicate n 13) ≡ number + 1
  next_row = omega (arith, p.feedless)

pub plain_have : (form : Form) (s a : RowState) (k : Columns) (bytes row : List ℕ) (n : ℕ) (cell : Address)
    → IsPlainCell form s.number k bytes row n cell → s.columns ≡ Some k → a.number ≡ s.number + 1
    → a.columns ≡ s.columns
    → HaveCells cells_in (form, s) ((row ++ replicate n 13, false) ∷ []) (cell ∷ []) (form, a)
plain_have form s a k bytes row n cell p known count same last more =
    let number : next_number s.number (row ++ replicate n 13) ≡ a.number =
    next_row form s.number k bytes row n cell p ∙ sym count in
    rw (known, p.sound, p.body_is, p.filled, p.cell_is, number, same ∙ known) refl

-- the same with its second field
pub entry_have : (table : Table) (s a : TableState) (k : TableColumns) (bytes field : List ℕ) (size : ℕ)
    (cell : Address)
    → (p : IsPlainEntry table s.number k bytes cell field size) → s.columns ≡ Some k
    → a.number ≡ s.number + 1 → a.columns ≡ s.columns
    → HaveCells named_in (table, s) ((p.row ++ replicate p.returns 13, false) ∷ [])
    (record { cell = Some cell; field = field; row = s.number } ∷ []) (table, a)
entry_have table s a k bytes field size cell p known count same last more =
    let plain = p.plain in
    let number : next_number s.number (p.row ++ replicate p.returns 13) ≡ a.number =
    next_row table.form s.number k.cell bytes p.row p.returns cell plain ∙ sym count in
    let entry : named_row table s.number k p.row ≡ Ok (Some (Some cell, field)) =
    rw (plain.cell_is, plain.read_is) p.entry_is in
    rw (known, plain.sound, plain.body_is, plain.filled, entry, number, same ∙ known) refl
