-- The text of a name in two parts.
use Rattle.std.proofs.Common.{◌≡◌, ℕ, ◌+◌, ◌-◌, ◌<◌, ◌==◌, nat_le, Bool, true, false, not, ◌&&◌, if◌then◌else◌, List, [], ◌∷◌, ◌++◌, length, take, drop, get_or, sym, ap, ◌∙◌, refl, length-append, arith}
use Rattle.std.proofs.lemmas.List.{get_or-append-add}
use Rattle.h3_index.specs.Text.{is_blank, trimmed, without_leading_blanks, without_trailing_blanks}
use Rattle.h3_lines.specs.PiecesLaws.{both}
use Rattle.h3_rows.specs.Answering.{is_tail}
use Rattle.h3_rows.specs.Row.{field_text, unquoted}
use Rattle.h3_rows.proofs.Blanks.{other_last}

last_of : (xs : List ℕ) (m : ℕ) (ms : List ℕ)
    → get_or (xs ++ m ∷ ms) (length (xs ++ m ∷ ms) - 1) 0 ≡ get_or (m ∷ ms) (length ms) 0
last_of xs m ms =
    let at : length (xs ++ m ∷ ms) - 1 ≡ length xs + length ms = omega (arith, length-append xs (m ∷ ms)) in
    ap (λ n. get_or (xs ++ m ∷ ms) n 0) at ∙ get_or-append-add xs (m ∷ ms) (length ms) 0

-- blanks before a byte that is none
leads : (xs : List ℕ) (m : ℕ) (ms : List ℕ) → is_blank m ≡ false
    → without_leading_blanks (xs ++ m ∷ ms) ≡ without_leading_blanks xs ++ m ∷ ms
leads [] m ms solid = rw solid refl
leads (x ∷ xs) m ms solid =
    let go : (t : Bool) → is_blank x ≡ t
    → (if t then without_leading_blanks (xs ++ m ∷ ms) else x ∷ (xs ++ m ∷ ms))
    ≡ (if t then without_leading_blanks xs else x ∷ xs) ++ m ∷ ms =
    λ t.
    elim t as
    (λ t.
    is_blank x ≡ t
    → (if t then without_leading_blanks (xs ++ m ∷ ms) else x ∷ (xs ++ m ∷ ms))
    ≡ (if t then without_leading_blanks xs else x ∷ xs) ++ m ∷ ms) [
      | true ↦ λ is. leads xs m ms solid
      | false ↦ λ is. refl
    ] in
    go (is_blank x) refl

never_both : (t u : Bool) (xs ys : List ℕ) → (if t && u && false then xs else ys) ≡ ys
never_both true true xs ys = refl
never_both true false xs ys = refl
never_both false true xs ys = refl
never_both false false xs ys = refl

-- bytes that end in no quote
stays_quoted : (bytes : List ℕ) → (get_or bytes (length bytes - 1) 0 == 34) ≡ false → unquoted bytes ≡ bytes
stays_quoted bytes other =
    rw other
    (never_both (nat_le 2 (length bytes)) (get_or bytes 0 0 == 34) (take (length bytes - 2) (drop 1 bytes)) bytes)

not_true : (b : Bool) → not b ≡ true → b ≡ false
not_true true h = absurd (cc)
not_true false h = refl

text_by : (quotes : Bool) (whole text : List ℕ) → trimmed whole ≡ text → unquoted text ≡ text
    → text ≡ field_text quotes whole
text_by true whole text trims same = sym (ap unquoted trims ∙ same)
text_by false whole text trims same = sym trims

pub tail_text : (quotes : Bool) (first more : List ℕ) → is_tail more ≡ true → 0 < length more
    → without_leading_blanks first ++ more ≡ field_text quotes (first ++ more)
tail_text quotes first [] tail some = absurd (omega (arith, some))
tail_text quotes first (m ∷ ms) tail some =
    let last = get_or (m ∷ ms) (length ms) 0 in
    let (solid, ends) = both (is_blank m) (not (is_blank last) && not (last == 34)) tail in
    let (kept, plain) = both (is_blank last) (not (last == 34)) ends in
    let text = without_leading_blanks first ++ m ∷ ms in
    let at : get_or text (length text - 1) 0 ≡ last = last_of (without_leading_blanks first) m ms in
    let trims : trimmed (first ++ m ∷ ms) ≡ text =
    ap without_trailing_blanks (leads first m ms solid)
    ∙ sym (other_last text (omega (arith, length-append (without_leading_blanks first) (m ∷ ms)))
    (ap is_blank at ∙ kept)) in
    text_by quotes (first ++ m ∷ ms) text trims (stays_quoted text (ap (λ b. b == 34) at ∙ not_true (last == 34) plain))
