-- Laws of bytes that are searched. Proofs alone cite this file.
use Rattle.std.proofs.Common.{◌≡◌, ℕ, ◌+◌, ◌<◌, ◌≤◌, Bool, true, false, not, ◌&&◌, ◌||◌, List, ◌∷◌, ◌++◌, length, take, drop, get_or, sym, ap, ◌∙◌, refl, length-take, take-append-drop, add-one, arith}
use Rattle.std.proofs.Math.Seq.{drop-cons}
use Rattle.std.proofs.lemmas.List.{get_or-take}
use Rattle.std.proofs.lemmas.List.Elements.{All-from_get_or}
use Rattle.std.proofs.lemmas.List.Sums.{list_all-from_AllPass}
use Rattle.std.specs.List.{list_all}

negated : (b : Bool) → (b ≡ true → ⊥) → not b ≡ true
negated true h = absurd (h refl)
negated false h = refl

-- no byte before a place passes a test
pub none_below : (test : ℕ → Bool) (bytes : List ℕ) (k : ℕ) → k ≤ length bytes
    → ((j : ℕ) → 0 ≤ j → j < k → test (get_or bytes j 0) ≡ true → ⊥)
    → list_all (λ b. not (test b)) (take k bytes) ≡ true
none_below test bytes k within none =
    list_all-from_AllPass (λ b. not (test b)) (take k bytes)
    (All-from_get_or (λ b. not (test b) ≡ true) (take k bytes) 0
    (λ i below.
    let short : i < k = omega (arith, length-take {A = ℕ}) in
    rw (get_or-take k bytes i 0 short) (negated (test (get_or bytes i 0)) (none i (omega arith) short))))

pub neither : (x y more : Bool) → (not (x || y) && more) ≡ true → (x ≡ false) × (y ≡ false) × (more ≡ true)
neither true y more h = absurd (cc)
neither false true more h = absurd (cc)
neither false false more h = (refl, refl, h)

-- the bytes on both sides of a place
pub split_at : (bytes : List ℕ) (k mark : ℕ) → k < length bytes → get_or bytes k 0 ≡ mark
    → bytes ≡ take k bytes ++ mark ∷ drop (k + 1) bytes
split_at bytes k mark within is =
    let cut : drop k bytes ≡ mark ∷ drop (k + 1) bytes = rw (add-one, ← is) (drop-cons bytes k 0 within) in
    sym (take-append-drop k bytes) ∙ ap (λ l. take k bytes ++ l) cut
