-- Rows of whole fields.
use Rattle.std.proofs.Common.{◌≡◌, ℕ, suc, ◌+◌, ◌-◌, ◌<◌, ◌≤◌, ◌==◌, Bool, true, false, List, [], ◌∷◌, ◌++◌, length, take, drop, get_or, replicate, take-append-drop, Some, sym, ap, ◌∙◌, refl, subst, append_assoc, length-append, length-drop, length-take-le, arith}
use Rattle.std.proofs.Math.Seq.{drop-append-add, take-append-add}
use Rattle.std.proofs.lemmas.List.{get_or-append-add}
use Rattle.std.proofs.lemmas.Bool.Decides.{nat_tests}
use Rattle.h3_rows.specs.Plain.{BeginsWhole, EndsField, EndsPlain, IsPlainRow, IsWhole, IsWholeRow, PassesFields}
use Rattle.h3_rows.specs.RowsAnswer.{is_as_wide}
use Rattle.h3_rows.specs.declared.state.Columns.{Columns}
use Rattle.h3_lines.specs.Pieces.{CutsAt, cut}
use Rattle.h3_rows.specs.Row.{piece_at}
use Rattle.h3_rows.proofs.Finding.{cuts_first, field_here, field_last, field_passed}
use Rattle.h3_rows.proofs.WholeFields.{whole_append, whole_marked, whole_none, whole_row, whole_then}
use Rattle.h3_lines.specs.PiecesLaws.{cut_at_end}
use Rattle.h3_lines.specs.ScanLaws.{split_at}

module _ (separator : ℕ) (quotes : Bool) (quote : (34 == separator) ≡ false) (feed : (10 == separator) ≡ false)
    (carriage : (13 == separator) ≡ false) where
  pub passes_none : (before : ℕ) (bytes : List ℕ) → PassesFields separator quotes before before bytes bytes
  passes_none before bytes =
      record {
        front = [];
        split = refl;
        whole = whole_none separator quotes quote;
        passed = λ more. refl;
        later = λ n more. refl;
        counted = λ more. omega arith;
      }

  -- a field is passed over
  pub passes_more : (before left : ℕ) (bytes rest field after : List ℕ) → 0 < left
      → PassesFields separator quotes before left bytes rest → rest ≡ field ++ separator ∷ after
      → IsWhole separator quotes field → PassesFields separator quotes before (left - 1) bytes after
  passes_more before left bytes rest field after some p split whole =
      let mark = separator ∷ [] in
      let joined : (more : List ℕ) → (p.front ++ (field ++ mark)) ++ more ≡ p.front ++ (field ++ separator ∷ more) =
      λ more. append_assoc p.front (field ++ mark) more ∙ ap (λ l. p.front ++ l) (append_assoc field mark more) in
      let one : (more : List ℕ)
      → length (cut separator quotes false (field ++ separator ∷ more))
      ≡ suc (length (cut separator quotes false more)) =
      λ more. ap length (cuts_first separator quotes (field ++ separator ∷ more) field more
      (record { begins = whole.uncut; split = refl })) in
      record {
        front = p.front ++ (field ++ mark);
        split =
            p.split ∙ ap (λ l. p.front ++ l) (split ∙ sym (append_assoc field mark after))
            ∙ sym (append_assoc p.front (field ++ mark) after);
        whole =
            whole_append separator quotes quote p.front (field ++ mark) p.whole
            (whole_marked separator quotes quote feed carriage field whole);
        passed =
            λ more. ap (λ l. piece_at before (cut separator quotes false l)) (joined more)
            ∙ p.passed (field ++ separator ∷ more)
            ∙ field_passed separator quotes (field ++ separator ∷ more) field more left some
            (record { begins = whole.uncut; split = refl });
        later =
            λ n more. ap (λ l. piece_at (before + n) (cut separator quotes false l)) (joined more)
            ∙ p.later n (field ++ separator ∷ more)
            ∙ field_passed separator quotes (field ++ separator ∷ more) field more (left + n) (omega (arith, some))
            (record { begins = whole.uncut; split = refl })
            ∙ ap (λ k. piece_at k (cut separator quotes false more)) (omega (arith, some));
        counted =
            λ more. omega (
              arith,
              ap (λ l. length (cut separator quotes false l)) (joined more),
              p.counted (field ++ separator ∷ more),
              one more,
              some,
            );
      }

  -- fields are passed over after others
  passes_then : (before left : ℕ) (bytes rest tail : List ℕ) → PassesFields separator quotes before left bytes rest
      → PassesFields separator quotes left 0 rest tail → PassesFields separator quotes before 0 bytes tail
  passes_then before left bytes rest tail p q =
      let joined : (more : List ℕ) → (p.front ++ q.front) ++ more ≡ p.front ++ (q.front ++ more)
      = λ more. append_assoc p.front q.front more in
      record {
        front = p.front ++ q.front;
        split = p.split ∙ ap (λ l. p.front ++ l) q.split ∙ sym (joined tail);
        whole = whole_append separator quotes quote p.front q.front p.whole q.whole;
        passed = λ more. ap (λ l. piece_at before (cut separator quotes false l)) (joined more)
            ∙ p.passed (q.front ++ more) ∙ q.passed more;
        later = λ n more. ap (λ l. piece_at (before + n) (cut separator quotes false l)) (joined more)
            ∙ p.later n (q.front ++ more) ∙ q.later n more;
        counted = λ more. omega (
          arith,
          ap (λ l. length (cut separator quotes false l)) (joined more),
          p.counted (q.front ++ more),
          q.counted more,
        );
      }

  -- one field more is passed over where the separator ends it
  passes_on : (before : ℕ) (bytes rest : List ℕ) → PassesFields separator quotes before 0 bytes rest
      → PassesFields separator quotes (before + 1) 1 bytes rest
  passes_on before bytes rest p = record {
    front = p.front;
    split = p.split;
    whole = p.whole;
    passed = λ more. p.later 1 more;
    later = λ n more. ap (λ k. piece_at k (cut separator quotes false (p.front ++ more))) (omega arith)
        ∙ p.later (1 + n) more ∙ ap (λ k. piece_at k (cut separator quotes false more)) (omega arith);
    counted = λ more. omega (arith, p.counted more);
  }

  pub ends_field : (before end : ℕ) (bytes rest : List ℕ) → PassesFields separator quotes before 0 bytes rest
      → end < length rest → IsWhole separator quotes (take end rest)
      → EndsField separator quotes before bytes (length bytes - length rest + end)
  ends_field before end bytes rest p inside whole within mark =
      let long : length bytes ≡ length p.front + length rest = ap length p.split ∙ length-append p.front rest in
      let place : length bytes - length rest + end ≡ length p.front + end = omega (arith, long) in
      let here : get_or rest end 0 ≡ separator =
      sym (ap (λ l. get_or l (length p.front + end) 0) p.split ∙ get_or-append-add p.front rest end 0)
      ∙ ap (λ n. get_or bytes n 0) (sym place) ∙ mark in
      let next : length bytes - length rest + end + 1 ≡ length p.front + (end + 1) = omega (arith, place) in
      let after : drop (length bytes - length rest + end + 1) bytes ≡ drop (end + 1) rest =
      ap (λ n. drop n bytes) next ∙ ap (drop (length p.front + (end + 1))) p.split
      ∙ drop-append-add p.front rest (end + 1) in
      subst (PassesFields separator quotes (before + 1) 0 bytes) (sym after)
      (passes_more (before + 1) 1 bytes rest (take end rest) (drop (end + 1) rest) (omega arith)
      (passes_on before bytes rest p) (split_at rest end separator inside here) whole)

  -- ---- whole fields up to a line end

  pub begins_none : (bytes : List ℕ) → BeginsWhole separator quotes bytes bytes
  begins_none bytes = record { front = []; split = refl; whole = whole_none separator quotes quote }

  -- a field and its separator more
  pub begins_more : (bytes rest field after : List ℕ) → BeginsWhole separator quotes bytes rest
      → rest ≡ field ++ separator ∷ after → IsWhole separator quotes field → BeginsWhole separator quotes bytes after
  begins_more bytes rest field after b split whole =
      let mark = separator ∷ [] in
      record {
        front = b.front ++ (field ++ mark);
        split = b.split ∙ ap (λ l. b.front ++ l) (split ∙ sym (append_assoc field mark after))
            ∙ sym (append_assoc b.front (field ++ mark) after);
        whole = whole_append separator quotes quote b.front (field ++ mark) b.whole
            (whole_marked separator quotes quote feed carriage field whole);
      }

  -- the last field ends the row
  pub row_ends : (bytes rest : List ℕ) (end : ℕ) → BeginsWhole separator quotes bytes rest
      → IsWhole separator quotes (take end rest)
      → IsWholeRow separator quotes (take (length bytes - length rest + end) bytes)
  row_ends bytes rest end b whole =
      let long : length bytes ≡ length b.front + length rest = ap length b.split ∙ length-append b.front rest in
      let place : length bytes - length rest + end ≡ length b.front + end = omega (arith, long) in
      let row : take (length bytes - length rest + end) bytes ≡ b.front ++ take end rest
      = ap (λ n. take n bytes) place ∙ ap (take (length b.front + end)) b.split ∙ take-append-add b.front rest end in
      subst (IsWholeRow separator quotes) (sym row) (whole_then separator quotes quote b.front (take end rest) b.whole
      (whole_row separator quotes quote (take end rest) whole))

  pub row_within : (bytes rest : List ℕ) (end : ℕ) → BeginsWhole separator quotes bytes rest → end < length rest
      → length bytes - length rest + end < length bytes
  row_within bytes rest end b within =
      let long : length bytes ≡ length b.front + length rest = ap length b.split ∙ length-append b.front rest in
      omega (arith, long, within)

  same_is : (n : ℕ) → (n == n) ≡ true
  same_is n = grind (arith, nat_tests)

  -- a row is as wide as it should be, if it should be so wide, and if any width will do
  pub wide_is : (columns : Columns) (width n : ℕ) → columns.width ≡ Some width → n ≡ width
      → is_as_wide columns.width n ≡ true
  wide_is columns width n is same = rw (is, same) (same_is width)

  one_field : (field : List ℕ) → IsWhole separator quotes field → length (cut separator quotes false field) ≡ 1
  one_field field whole = ap length (cut_at_end separator quotes false field whole.uncut.uncut)

  -- the row ends where its cell's field does
  pub ends_here : (columns : Columns) (rest : List ℕ) (end : ℕ) → is_as_wide columns.width (columns.before + 1) ≡ true
      → end < length rest → IsWhole separator quotes (take end rest) → EndsPlain separator quotes columns rest end end
  ends_here columns rest end wide within whole = record {
    within = within;
    whole = whole_row separator quotes quote (take end rest) whole;
    field_is = field_last separator quotes false (take end rest) 0 refl whole.uncut;
    as_wide = ap (λ n. is_as_wide columns.width (columns.before + n)) (one_field (take end rest) whole) ∙ wide;
  }

  -- the row up to a place after a field and its separator
  first_part : (rest : List ℕ) (end more : ℕ) → end < length rest → get_or rest end 0 ≡ separator
      → take (end + 1 + more) rest ≡ take end rest ++ separator ∷ take more (drop (end + 1) rest)
  first_part rest end more inside mark =
      let front = take end rest ++ separator ∷ [] in
      let after = drop (end + 1) rest in
      let long : length (take end rest) ≡ end = length-take-le end rest (omega (arith, inside)) in
      let size : length front + more ≡ end + 1 + more =
      omega (arith, length-append (take end rest) (separator ∷ []), long) in
      let split : rest ≡ front ++ after =
      split_at rest end separator inside mark ∙ sym (append_assoc (take end rest) (separator ∷ []) after) in
      ap (λ n. take n rest) (sym size) ∙ ap (take (length front + more)) split ∙ take-append-add front after more
      ∙ append_assoc (take end rest) (separator ∷ []) (take more after)

  -- the row ends after its cell's field and other bytes
  ends_with : (columns : Columns) (rest : List ℕ) (end more : ℕ) → end < length rest → get_or rest end 0 ≡ separator
      → more < length (drop (end + 1) rest) → IsWhole separator quotes (take end rest)
      → IsWholeRow separator quotes (take more (drop (end + 1) rest))
      → is_as_wide columns.width
      (columns.before + suc (length (cut separator quotes false (take more (drop (end + 1) rest)))))
      ≡ true
      → EndsPlain separator quotes columns rest end (end + 1 + more)
  ends_with columns rest end more inside mark within whole row wide =
      let field = take end rest in
      let tail = take more (drop (end + 1) rest) in
      let is = first_part rest end more inside mark in
      let joined : field ++ separator ∷ tail ≡ (field ++ separator ∷ []) ++ tail =
      sym (append_assoc field (separator ∷ []) tail) in
      let cuts : CutsAt separator quotes false (field ++ separator ∷ tail) field tail =
      record { begins = whole.uncut; split = refl } in
      let count : length (cut separator quotes false (field ++ separator ∷ tail))
      ≡ suc (length (cut separator quotes false tail)) =
      ap length (cuts_first separator quotes (field ++ separator ∷ tail) field tail cuts) in
      record {
        within = omega (arith, within, length-drop {A = ℕ});
        whole =
            subst (IsWholeRow separator quotes) (sym (is ∙ joined)) (whole_then separator quotes quote
            (field ++ separator ∷ []) tail (whole_marked separator quotes quote feed carriage field whole) row);
        field_is =
            ap (λ l. piece_at 0 (cut separator quotes false l)) is
            ∙ field_here separator quotes (field ++ separator ∷ tail) field tail 0 refl cuts;
        as_wide =
            ap (λ l. is_as_wide columns.width (columns.before + length (cut separator quotes false l))) is
            ∙ ap (λ n. is_as_wide columns.width (columns.before + n)) count ∙ wide;
      }

  -- the row ends after any number of fields
  pub ends_anywhere : (columns : Columns) (rest : List ℕ) (end more : ℕ) → ((n : ℕ) → is_as_wide columns.width n ≡ true)
      → end < length rest → get_or rest end 0 ≡ separator → more < length (drop (end + 1) rest)
      → IsWhole separator quotes (take end rest) → IsWholeRow separator quotes (take more (drop (end + 1) rest))
      → EndsPlain separator quotes columns rest end (end + 1 + more)
  ends_anywhere columns rest end more wide inside mark within whole row =
      ends_with columns rest end more inside mark within whole row (wide _)

  -- the row ends after its cell's field and as many others as it should have
  pub ends_after : (columns : Columns) (width more : ℕ) (rest : List ℕ) (end : ℕ) (tail : List ℕ) (last : ℕ)
      → columns.width ≡ Some width → columns.before + more + 1 ≡ width → 0 < more
      → end < length rest → get_or rest end 0 ≡ separator → IsWhole separator quotes (take end rest)
      → PassesFields separator quotes (more - 1) 0 (drop (end + 1) rest) tail
      → last < length tail → IsWhole separator quotes (take last tail)
      → EndsPlain separator quotes columns rest end (length rest - length tail + last)
  ends_after columns width more rest end tail last is count some inside mark field p within whole =
      let after = drop (end + 1) rest in
      let long : length after ≡ length p.front + length tail = ap length p.split ∙ length-append p.front tail in
      let size : length after ≡ length rest - (end + 1) = length-drop (end + 1) rest in
      let place : end + 1 + (length p.front + last) ≡ length rest - length tail + last =
      omega (arith, long, size, inside) in
      let row : take (length p.front + last) after ≡ p.front ++ take last tail =
      ap (take (length p.front + last)) p.split ∙ take-append-add p.front tail last in
      let all : suc (length (cut separator quotes false (take (length p.front + last) after))) ≡ suc more
      =
      omega (
        arith,
        ap (λ l. length (cut separator quotes false l)) row,
        p.counted (take last tail),
        one_field (take last tail) whole,
        some,
      ) in
      let wide : is_as_wide columns.width (columns.before + suc more) ≡ true =
      wide_is columns width (columns.before + suc more) is (omega (arith, count)) in
      subst (EndsPlain separator quotes columns rest end) place
      (ends_with columns rest end (length p.front + last) inside mark (omega (arith, long, within)) field
      (subst (IsWholeRow separator quotes) (sym row) (whole_then separator quotes quote p.front (take last tail) p.whole
      (whole_row separator quotes quote (take last tail) whole)))
      (ap (λ n. is_as_wide columns.width (columns.before + n)) all ∙ wide))

  -- the first bytes, up to a place after those that are passed over
  first_bytes : (before left part size : ℕ) (bytes rest : List ℕ)
      → (p : PassesFields separator quotes before left bytes rest)
      → length bytes - length rest + part ≡ size → take size bytes ≡ p.front ++ take part rest
  first_bytes before left part size bytes rest p is =
      let long : length bytes ≡ length p.front + length rest = ap length p.split ∙ length-append p.front rest in
      let count : size ≡ length p.front + part = omega (arith, long, is) in
      ap (λ n. take n bytes) count ∙ ap (take (length p.front + part)) p.split ∙ take-append-add p.front rest part

  -- a field of a row that is these first bytes: its last one, and one that the separator ends
  pub last_field : (before end size : ℕ) (bytes rest : List ℕ) → PassesFields separator quotes before 0 bytes rest
      → IsWhole separator quotes (take end rest) → length bytes - length rest + end ≡ size
      → piece_at before (cut separator quotes false (take size bytes)) ≡ Some (take end rest)
  last_field before end size bytes rest p whole is =
      ap (λ l. piece_at before (cut separator quotes false l)) (first_bytes before 0 end size bytes rest p is)
      ∙ p.passed (take end rest) ∙ field_last separator quotes false (take end rest) 0 refl whole.uncut

  pub ended_field : (before end size : ℕ) (bytes rest : List ℕ) → PassesFields separator quotes before 0 bytes rest
      → IsWhole separator quotes (take end rest) → end < length rest → get_or rest end 0 ≡ separator
      → length bytes - length rest + end < size
      → piece_at before (cut separator quotes false (take size bytes)) ≡ Some (take end rest)
  ended_field before end size bytes rest p whole inside mark less =
      let more = size - (length bytes - length rest + end + 1) in
      let place : length bytes - length rest + (end + 1 + more) ≡ size = omega (arith, less) in
      let tail = take more (drop (end + 1) rest) in
      let row : take size bytes ≡ p.front ++ (take end rest ++ separator ∷ tail) =
      first_bytes before 0 (end + 1 + more) size bytes rest p place
      ∙ ap (λ l. p.front ++ l) (first_part rest end more inside mark) in
      ap (λ l. piece_at before (cut separator quotes false l)) row ∙ p.passed (take end rest ++ separator ∷ tail)
      ∙ field_here separator quotes (take end rest ++ separator ∷ tail) (take end rest) tail 0 refl
      (record { begins = whole.uncut; split = refl })

  -- a field that is found after others that are passed over
  pub later_field : (before more size : ℕ) (bytes rest field : List ℕ)
      → PassesFields separator quotes before 0 bytes rest → length bytes - length rest ≤ size
      → piece_at more (cut separator quotes false (take (size - (length bytes - length rest)) rest)) ≡ Some field
      → piece_at (before + more) (cut separator quotes false (take size bytes)) ≡ Some field
  later_field before more size bytes rest field p within is =
      let part = size - (length bytes - length rest) in
      ap (λ l. piece_at (before + more) (cut separator quotes false l))
      (first_bytes before 0 part size bytes rest p (omega (arith, within)))
      ∙ p.later more (take part rest) ∙ ap (λ k. piece_at k (cut separator quotes false (take part rest))) (omega arith)
      ∙ is

  -- the row that bytes begin with
  pub plain_row : (columns : Columns) (bytes rest : List ℕ) (end last returns : ℕ)
      → PassesFields separator quotes columns.before 0 bytes rest → EndsPlain separator quotes columns rest end last
      → drop last rest ≡ replicate returns 13 ++ 10 ∷ drop (last + returns + 1) rest → returns ≤ 1
      → IsPlainRow separator quotes columns bytes (take (length bytes - length rest + last) bytes) returns
      (take end rest)
  plain_row columns bytes rest end last returns p e ended few =
      let long : length bytes ≡ length p.front + length rest = ap length p.split ∙ length-append p.front rest in
      let count : length bytes - length rest + last ≡ length p.front + last = omega (arith, long) in
      let parts : take (length bytes - length rest + last) bytes ≡ p.front ++ take last rest =
      ap (λ n. take n bytes) count ∙ ap (take (length p.front + last)) p.split
      ∙ take-append-add p.front rest last in
      let width : length (cut separator quotes false (p.front ++ take last rest))
      ≡ columns.before + length (cut separator quotes false (take last rest)) =
      omega (arith, p.counted (take last rest)) in
      let later = drop (last + returns + 1) rest in
      let whole : rest ≡ take last rest ++ (replicate returns 13 ++ 10 ∷ later) = sym (take-append-drop last rest)
      ∙ ap (λ l. take last rest ++ l) ended in
      let apart : ((p.front ++ take last rest) ++ replicate returns 13) ++ 10 ∷ later
      ≡ p.front ++ (take last rest ++ (replicate returns 13 ++ 10 ∷ later))
      = append_assoc (p.front ++ take last rest) (replicate returns 13) (10 ∷ later)
      ∙ append_assoc p.front (take last rest) (replicate returns 13 ++ 10 ∷ later) in
      rw parts record {
        after = later;
        split = p.split ∙ ap (λ l. p.front ++ l) whole ∙ sym apart;
        few = few;
        whole = whole_then separator quotes quote p.front (take last rest) p.whole e.whole;
        field_is = p.passed (take last rest) ∙ e.field_is;
        as_wide = rw width e.as_wide;
      }
