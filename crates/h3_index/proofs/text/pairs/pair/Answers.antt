use Rattle.std.proofs.Common.{ℕ, ◌≡◌, ◌/◌, ◌%◌, ◌==◌, ◌<◌, ◌∷◌, [], List, get_or, length, true, refl, arith, eqb-true}
use Rattle.std.specs.Char.{digit_char}
use Rattle.std.proofs.lemmas.Bool.{agree_below_at}
use Rattle.h3_index.specs.declared.text.pairs.TheConstants.{PAIRS}
use Rattle.h3_index.proofs.text.pairs.pair.Goals as goal

two : (l : List ℕ) (a b : ℕ) → length l ≡ 2 → get_or l 0 0 ≡ a → get_or l 1 0 ≡ b → l ≡ a ∷ b ∷ []
two [] a b size first second = absurd (omega (arith, size))
two (x ∷ []) a b size first second = absurd (omega (arith, size))
two (x ∷ y ∷ []) a b size first second = rw (← first, ← second) refl
two (x ∷ y ∷ z ∷ l) a b size first second = absurd (omega (arith, size))

pair_at : (i : ℕ) → i < 256 → get_or PAIRS i [] ≡ digit_char (i / 16 % 16) ∷ digit_char (i % 16) ∷ []
pair_at i h =
    two (get_or PAIRS i []) _ _
    (eqb-true _ _ (agree_below_at (λ i. length (get_or PAIRS i []) == 2) (λ _. true) 256 i refl h))
    (eqb-true _ _
    (agree_below_at (λ i. get_or (get_or PAIRS i []) 0 0 == digit_char (i / 16 % 16)) (λ _. true) 256 i refl h))
    (eqb-true _ _
    (agree_below_at (λ i. get_or (get_or PAIRS i []) 1 0 == digit_char (i % 16)) (λ _. true) 256 i refl h))

pub returns : goal.returns
returns c = pair_at c.args.byte c.requires
