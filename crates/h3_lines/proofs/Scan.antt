-- Bytes that are searched for the first mark outside quotes.
use Rattle.std.proofs.Common.{◌≡◌, ℕ, ◌+◌, ◌<◌, ◌≤◌, ◌==◌, Bool, true, false, not, ◌||◌, List, [], ◌∷◌, ◌++◌, length, take, drop, get_or, sym, ap, ◌∙◌, refl, subst, take-append-drop, take_all, arith}
use Rattle.std.proofs.Math.Seq.{take-add}
use Rattle.std.proofs.lemmas.Bool.Decides.{nat_tests}
use Rattle.std.proofs.lemmas.List.{get_or-drop, take_more}
use Rattle.std.specs.List.{list_all}
use Rattle.memchr.specs.Find.{is_byte, is_byte2}
use Rattle.h3_lines.specs.Pieces.{CutsAt, Uncut}
use Rattle.h3_lines.specs.PiecesLaws.{and_false, both, uncut_byte, uncut_none, uncut_then}
use Rattle.h3_lines.specs.ScanLaws.{neither, none_below, split_at}

-- neither marks nor quotes
quiet : (mark : ℕ) (inside : Bool) (bytes : List ℕ) → list_all (λ b. not (is_byte2 mark 34 b)) bytes ≡ true
    → Uncut mark true inside bytes inside
quiet mark inside [] h = uncut_none mark true inside
quiet mark inside (b ∷ bs) h =
    let (m, q, more) = neither (b == mark) (b == 34) (list_all (λ b. not (is_byte2 mark 34 b)) bs) h in
    uncut_byte mark true inside b bs m q (quiet mark inside bs more)

-- no marks, where quotes do not count
unmarked : (mark : ℕ) (inside : Bool) (bytes : List ℕ) → list_all (λ b. not (is_byte mark b)) bytes ≡ true
    → Uncut mark false inside bytes inside
unmarked mark inside [] h = uncut_none mark false inside
unmarked mark inside (b ∷ bs) h =
    let (m, more) = both (b == mark) (list_all (λ b. not (is_byte mark b)) bs) h in
    uncut_byte mark false inside b bs m refl (unmarked mark inside bs more)

-- ---- the steps of the search

module _ (mark : ℕ) (inside here : Bool) (bytes : List ℕ) (at : ℕ) where
  -- up to what was found after a place
  pub quiet_up_to : (hay : List ℕ) (next : ℕ) → hay ≡ drop at bytes → next ≤ length hay
      → ((j : ℕ) → 0 ≤ j → j < next → is_byte2 mark 34 (get_or hay j 0) ≡ true → ⊥)
      → Uncut mark true inside (take at bytes) here → Uncut mark true inside (take (at + next) bytes) here
  quiet_up_to hay next is within none u =
      subst (λ l. Uncut mark true inside l here) (sym (take-add at next bytes))
      (uncut_then mark true (take at bytes) (take next (drop at bytes)) u (subst
      (λ l. Uncut mark true here (take next l) here) is
      (quiet mark here (take next hay) (none_below (is_byte2 mark 34) hay next within none))))

  -- up to the end
  pub quiet_to_end : (hay : List ℕ) → hay ≡ drop at bytes
      → ((j : ℕ) → 0 ≤ j → j < length hay → is_byte2 mark 34 (get_or hay j 0) ≡ true → ⊥)
      → Uncut mark true inside (take at bytes) here → Uncut mark true inside bytes here
  quiet_to_end hay is none u =
      let all : list_all (λ b. not (is_byte2 mark 34 b)) hay ≡ true =
      subst (λ l. list_all (λ b. not (is_byte2 mark 34 b)) l ≡ true) (take_all (length hay) hay (omega arith))
      (none_below (is_byte2 mark 34) hay (length hay) (omega arith) none) in
      subst (λ l. Uncut mark true inside l here) (ap (λ l. take at bytes ++ l) is ∙ take-append-drop at bytes)
      (uncut_then mark true (take at bytes) hay u (quiet mark here hay all))

  -- one byte more
  byte_more : {end : Bool} → at < length bytes → Uncut mark true here (get_or bytes at 0 ∷ []) end
      → Uncut mark true inside (take at bytes) here → Uncut mark true inside (take (at + 1) bytes) end
  byte_more {end} within v u =
      subst (λ l. Uncut mark true inside l end) (sym (take_more bytes at 0 within))
      (uncut_then mark true (take at bytes) (get_or bytes at 0 ∷ []) u v)

  pub quote_more : at < length bytes → get_or bytes at 0 ≡ 34 → (34 == mark) ≡ false
      → Uncut mark true inside (take at bytes) here → Uncut mark true inside (take (at + 1) bytes) (not here)
  quote_more within is m u =
      byte_more within (subst (λ b. Uncut mark true here (b ∷ []) (not here)) (sym is)
      (record { uncut = rw m refl; inside_is = refl })) u

  -- what is no quote cuts nothing inside quotes
  pub inside_more : at < length bytes → (get_or bytes at 0 == 34) ≡ false → here ≡ true
      → Uncut mark true inside (take at bytes) here → Uncut mark true inside (take (at + 1) bytes) here
  inside_more within q is u =
      let b = get_or bytes at 0 in
      let one : Uncut mark true here (b ∷ []) here =
      rw is (record { uncut = rw (and_false (b == mark)) refl; inside_is = rw q refl }) in
      byte_more within one u

  pub cut_here : at < length bytes → get_or bytes at 0 ≡ mark → here ≡ false
      → Uncut mark true inside (take at bytes) here
      → CutsAt mark true inside bytes (take at bytes) (drop (at + 1) bytes)
  cut_here within is closed u =
      record {
        begins = subst (Uncut mark true inside (take at bytes)) closed u;
        split = split_at bytes at mark within is;
      }

-- ---- where quotes do not count

pub unmarked_cut : (mark : ℕ) (bytes : List ℕ) (at : ℕ) → at < length bytes
    → ((j : ℕ) → 0 ≤ j → j < at → is_byte mark (get_or bytes j 0) ≡ true → ⊥) → (get_or bytes at 0 == mark) ≡ true
    → CutsAt mark false false bytes (take at bytes) (drop (at + 1) bytes)
unmarked_cut mark bytes at within none is =
    let same : get_or bytes at 0 ≡ mark = grind (arith, nat_tests) in
    record {
      begins = unmarked mark false (take at bytes) (none_below (is_byte mark) bytes at (omega arith) none);
      split = split_at bytes at mark within same;
    }

pub unmarked_all : (mark : ℕ) (bytes : List ℕ)
    → ((j : ℕ) → 0 ≤ j → j < length bytes → is_byte mark (get_or bytes j 0) ≡ true → ⊥)
    → Uncut mark false false bytes false
unmarked_all mark bytes none =
    unmarked mark false bytes (subst (λ l. list_all (λ b. not (is_byte mark b)) l ≡ true)
    (take_all (length bytes) bytes (omega arith))
    (none_below (is_byte mark) bytes (length bytes) (omega arith) none))

-- what was found and is no quote is the mark
pub found_mark : (mark : ℕ) (hay bytes : List ℕ) (at next : ℕ) → hay ≡ drop at bytes
    → is_byte2 mark 34 (get_or hay next 0) ≡ true → (get_or bytes (at + next) 0 ≡ 34 → ⊥)
    → get_or bytes (at + next) 0 ≡ mark
found_mark mark hay bytes at next is passes other' =
    let place : get_or hay next 0 ≡ get_or bytes (at + next) 0 =
    ap (λ l. get_or l next 0) is ∙ get_or-drop at bytes next 0 in
    let b = get_or bytes (at + next) 0 in
    let found : (b == mark || b == 34) ≡ true = subst (λ x. (x == mark || x == 34) ≡ true) place passes in
    grind (arith, nat_tests)

pub is_no_quote : (b : ℕ) → (b ≡ 34 → ⊥) → (b == 34) ≡ false
is_no_quote b n = grind (arith, nat_tests)
