-- Walks that begin with what was given so far.
use Rattle.std.proofs.Common.{◌≡◌, ℕ, zero, suc, ◌≤◌, ◌<◌, List, [], ◌∷◌, ◌++◌, length, map, take, slice_set, Result, Ok, Err, refl, ap, ◌∙◌, arith}
use Rattle.std.proofs.lemmas.List.{length-map, map-append, take_all, take-append-le}
use Rattle.h3_index.specs.Error.{error_number}
use Rattle.h3_index.specs.declared.error.H3Error.{H3Error}
use Rattle.h3_c.specs.Lists.{laid_over}
use Rattle.h3_c.specs.Walks.{given, items_code}
use Rattle.h3_c.proofs.Laid.{laid_over-snoc}

-- a walk that gives these
pub written : {A : Type 0} → List A → List (Result A H3Error)
written [] = []
written (x ∷ xs) = Ok x ∷ written xs

pub written-nil : {A : Type 0} → written {A = A} [] ≡ []
unfolding written
written-nil = refl

pub written-snoc : {A : Type 0} (xs : List A) (x : A) → written (xs ++ x ∷ []) ≡ written xs ++ Ok x ∷ []
unfolding written
written-snoc [] x = refl
written-snoc (y ∷ xs) x = ap (λ l. Ok y ∷ l) (written-snoc xs x)

pub length-written : {A : Type 0} (xs : List A) → length (written xs) ≡ length xs
unfolding written
length-written [] = refl
length-written (x ∷ xs) = ap suc (length-written xs)

pub given-more : {A : Type 0} (xs : List A) (x : A) (rest : List (Result A H3Error))
    → given (written xs ++ Ok x ∷ rest) ≡ xs ++ x ∷ given rest
unfolding given written
given-more [] x rest = refl
given-more (y ∷ xs) x rest = ap (λ l. y ∷ l) (given-more xs x rest)

pub given-whole : {A : Type 0} (xs : List A) → given (written xs) ≡ xs
unfolding given written
given-whole [] = refl
given-whole (x ∷ xs) = ap (λ l. x ∷ l) (given-whole xs)

pub given-error : {A : Type 0} (xs : List A) (e : H3Error) (rest : List (Result A H3Error))
    → given (written xs ++ Err e ∷ rest) ≡ xs
unfolding given written
given-error [] e rest = refl
given-error (x ∷ xs) e rest = ap (λ l. x ∷ l) (given-error xs e rest)

-- where what comes after them has no room
pub code-full : {A : Type 0} (xs : List A) (x : A) (rest : List (Result A H3Error)) (n : ℕ) → n ≡ length xs
    → items_code (written xs ++ Ok x ∷ rest) n ≡ 14
unfolding items_code written
code-full [] x rest zero is = refl
code-full [] x rest (suc n) is = absurd (omega (arith, is))
code-full (y ∷ xs) x rest zero is = absurd (omega (arith, is))
code-full (y ∷ xs) x rest (suc n) is = code-full xs x rest n (omega (arith, is))

pub code-error : {A : Type 0} (xs : List A) (e : H3Error) (rest : List (Result A H3Error)) (n : ℕ) → length xs ≤ n
    → items_code (written xs ++ Err e ∷ rest) n ≡ error_number e
unfolding items_code written
code-error [] e rest n fits = refl
code-error (y ∷ xs) e rest zero fits = absurd (omega (arith, fits))
code-error (y ∷ xs) e rest (suc n) fits = code-error xs e rest n (omega (arith, fits))

pub code-end : {A : Type 0} (xs : List A) (n : ℕ) → length xs ≤ n → items_code (written xs) n ≡ 0
unfolding items_code written
code-end [] n fits = refl
code-end (y ∷ xs) zero fits = absurd (omega (arith, fits))
code-end (y ∷ xs) (suc n) fits = code-end xs n (omega (arith, fits))

-- ---- what is written of each

-- one more, where there is room
pub put-more : {A : Type 0} (f : A → ℕ) (xs : List A) (x : A) (old : List ℕ) → length xs < length old
    → laid_over (map f (xs ++ x ∷ [])) old ≡ slice_set (laid_over (map f xs) old) (length xs) (f x)
put-more f xs x old room =
    ap (λ l. laid_over l old) (map-append f xs (x ∷ []))
    ∙ laid_over-snoc (map f xs) old (f x) (rw length-map room)
    ∙ ap (λ n. slice_set (laid_over (map f xs) old) n (f x)) (length-map xs f)

-- those that have room, where all have
pub room-all : {A : Type 0} (f : A → ℕ) (xs : List A) (n : ℕ) → length xs ≤ n → take n (map f xs) ≡ map f xs
room-all f xs n fits = take_all n (map f xs) (rw length-map fits)

-- those that have room, where the next has none
pub room-full : {A : Type 0} (f : A → ℕ) (xs more : List A) (n : ℕ) → n ≡ length xs
    → take n (map f (xs ++ more)) ≡ map f xs
room-full f xs more n is =
    ap (λ l. take n l) (map-append f xs more)
    ∙ take-append-le n (map f xs) (map f more) (rw length-map (omega (arith, is)))
    ∙ room-all f xs n (omega (arith, is))
