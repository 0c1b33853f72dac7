-- Lines that parse as an index.
use Rattle.std.specs.Char.{is_digit}
use Rattle.std.specs.List.{list_all}
use Rattle.std.proofs.Common.{◌≡◌, ℕ, ◌≤◌, ◌==◌, ◌&&◌, nat_lt, Bool, true, false, List, [], ◌∷◌, ◌++◌, length, Some, sym, ap, ◌∙◌, refl, arith, eqb-true}
use Rattle.std.proofs.lemmas.Bool.Decides.{nat_tests}
use Rattle.h3_index.specs.Text.{parsed_number, parsed_index, trimmed, without_prefix}
use Rattle.h3_lines.specs.List.{Says, said_as, said_for}
use Rattle.h3_lines.specs.PiecesLaws.{uncut_byte, uncut_none, uncut_then}
use Rattle.h3_lines.specs.Pieces.{Uncut}

pub nothing_left : (rest : List ℕ) (b : Bool) → (length rest == 0) ≡ b → (n : ℕ)
    → parsed_number (without_prefix rest) ≡ Some n → b ≡ false
nothing_left [] b is n parses = absurd (cc)
nothing_left (x ∷ rest) b is n parses =
    let some : (length (x ∷ rest) == 0) ≡ false = grind (arith, nat_tests) in sym is ∙ some

-- a line that parses as an index is not blank
pub said_by_parsed : (says : Says) (line : List ℕ) (n : ℕ) → length line ≤ 64 → parsed_index line ≡ Some n
    → said_as says line ≡ says n
unfolding parsed_index
said_by_parsed says line n short parses =
    let few : nat_lt 64 (length line) ≡ false = grind (arith, nat_tests) in
    let left : (length (trimmed line) == 0) ≡ false = nothing_left (trimmed line) _ refl n parses in
    rw (few, left) (ap (said_for says) parses)

-- ---- plain lines

digit_byte : (radix b : ℕ) (t : Bool) (mark : ℕ) → (b == mark) ≡ t → is_digit b radix ≡ true
    → is_digit mark radix ≡ false → t ≡ false
digit_byte radix b false mark is digit other = refl
digit_byte radix b true mark is digit other =
    let never : is_digit mark radix ≡ true = ap (λ n. is_digit n radix) (sym (eqb-true b mark is)) ∙ digit in
    absurd (cc)

both : (p q : Bool) → (p && q) ≡ true → (p ≡ true) × (q ≡ true)
both true q h = (refl, h)
both false q h = absurd (cc)

and_false : (x y : Bool) → y ≡ false → (x && y) ≡ false
and_false true y h = h
and_false false y h = refl

-- digits of a radix in which a line feed and a quote are none
pub digits_uncut : (radix : ℕ) → is_digit 10 radix ≡ false → is_digit 34 radix ≡ false → (q : Bool) (bytes : List ℕ)
    → list_all (λ b. is_digit b radix) bytes ≡ true → Uncut 10 q false bytes false
digits_uncut radix feed quote q [] h = uncut_none 10 q false
digits_uncut radix feed quote q (b ∷ bytes) h =
    let (digit, more) = both (is_digit b radix) (list_all (λ b. is_digit b radix) bytes) h in
    uncut_byte 10 q false b bytes (digit_byte radix b (b == 10) 10 refl digit feed)
    (and_false q (b == 34) (digit_byte radix b (b == 34) 34 refl digit quote))
    (digits_uncut radix feed quote q bytes more)

-- a carriage return after them
pub returned_uncut : (radix : ℕ) → is_digit 10 radix ≡ false → is_digit 34 radix ≡ false → (q : Bool) (bytes : List ℕ)
    → list_all (λ b. is_digit b radix) bytes ≡ true → Uncut 10 q false (bytes ++ 13 ∷ []) false
returned_uncut radix feed quote q bytes h =
    uncut_then 10 q bytes (13 ∷ []) (digits_uncut radix feed quote q bytes h)
    (uncut_byte 10 q false 13 [] refl (and_false q (13 == 34) refl) (uncut_none 10 q false))
