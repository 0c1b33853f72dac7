-- Laws of the items that a loop takes from an iterator. Proofs alone cite this file.
use Rattle.std.proofs.Common.{◌≡◌, ◌+◌, List, [], ◌∷◌, ◌++◌, length, take, drop, map, Option, None, Some, sym, ap, ◌∙◌, refl, subst, append-nil, take-append-drop}
use Rattle.std.proofs.lemmas.List.{drop_more}
use Rattle.std.specs.Iterator.{AlwaysYields, Yields}
use Rattle.std.proofs.lemmas.Iterator.{YieldsList}
use Rattle.std.proofs.lemmas.Iterator.Consumers.{YieldsList-so_far, YieldsList-turn, YieldsList-end}

-- from is the iterator that the loop made of s

pub map_same : {A : Type 0} (xs : List A) → map (λ x. x) xs ≡ xs
map_same [] = refl
map_same (x ∷ xs) = ap (λ l. x ∷ l) (map_same xs)

-- where a call gives x after xs, these stand so in the list of all
pub split_at : {S A : Type 0} (steps : S → Option A → S → Type 0) {s : S} {all : List A}
    → AlwaysYields steps (λ x. x) s all → (from : S) → from ≡ s → (xs : List A) (t : S) → Yields steps from xs t
    → (u : S) (x : A) → steps t (Some x) u → all ≡ xs ++ x ∷ drop (length xs + 1) all
split_at steps {s = s} {all = all} e from begins xs t y u x st =
    let e' : YieldsList steps (λ x. x) from all =
    subst (λ z. YieldsList steps (λ x. x) z all) (sym begins) (record { runs = e }) in
    let (less, here) = YieldsList-turn e' xs t y (Some x) u x refl st in
    let front : xs ≡ take (length xs) all = sym (map_same xs) ∙ YieldsList-so_far e' xs t y in
    let rest : drop (length xs) all ≡ x ∷ drop (length xs + 1) all =
    drop_more all (length xs) x less ∙ ap (λ z. z ∷ drop (length xs + 1) all) (sym here) in
    sym (take-append-drop (length xs) all) ∙ ap (λ l. l ++ drop (length xs) all) (sym front) ∙ ap (λ l. xs ++ l) rest

-- where it ends after xs, these are all
pub whole_at : {S A : Type 0} (steps : S → Option A → S → Type 0) {s : S} {all : List A}
    → AlwaysYields steps (λ x. x) s all → (from : S) → from ≡ s → (xs : List A) (t : S) → Yields steps from xs t
    → (u : S) → steps t None u → all ≡ xs ++ []
whole_at steps {s = s} {all = all} e from begins xs t y u st =
    let e' : YieldsList steps (λ x. x) from all =
    subst (λ z. YieldsList steps (λ x. x) z all) (sym begins) (record { runs = e }) in
    let whole : xs ≡ all = sym (map_same xs) ∙ (YieldsList-end e' xs t y None u refl st).0 in
    sym whole ∙ sym (append-nil xs)
