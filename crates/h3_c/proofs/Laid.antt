-- Lists laid over a list.
use Rattle.std.proofs.Common.{◌≡◌, ℕ, suc, ◌<◌, ◌≤◌, List, [], ◌∷◌, ◌++◌, length, slice_set, nat_le, true, false, refl, ap, ◌∙◌, arith}
use Rattle.std.proofs.lemmas.List.{length-map, map-append}
use Rattle.std.proofs.lemmas.Bool.{le-leb, lt-leb}
use Rattle.h3_index.specs.Cell.{Address, number_of}
use Rattle.h3_c.specs.Lists.{indexes, laid_over}

-- one item more, where there is room
pub laid_over-snoc : {A : Type 0} (xs old : List A) (x : A) → length xs < length old
    → laid_over (xs ++ x ∷ []) old ≡ slice_set (laid_over xs old) (length xs) x
unfolding laid_over
laid_over-snoc [] (y ∷ old) x room = refl
laid_over-snoc [] [] x room = absurd (omega (arith, room))
laid_over-snoc (z ∷ xs) (y ∷ old) x room = ap (λ l. z ∷ l) (laid_over-snoc xs old x (omega (arith, room)))
laid_over-snoc (z ∷ xs) [] x room = absurd (omega (arith, room))

-- more items, where there is no room
pub laid_over-full : {A : Type 0} (xs more old : List A) → length old ≤ length xs
    → laid_over (xs ++ more) old ≡ laid_over xs old
unfolding laid_over
laid_over-full [] [] [] full = refl
laid_over-full [] (x ∷ more) [] full = refl
laid_over-full [] more (y ∷ old) full = absurd (omega (arith, full))
laid_over-full (z ∷ xs) more [] full = refl
laid_over-full (z ∷ xs) more (y ∷ old) full = ap (λ l. z ∷ l) (laid_over-full xs more old (omega (arith, full)))

pub length-laid_over : {A : Type 0} (xs old : List A) → length (laid_over xs old) ≡ length old
unfolding laid_over
length-laid_over [] old = refl
length-laid_over (x ∷ xs) [] = refl
length-laid_over (x ∷ xs) (y ∷ old) = ap suc (length-laid_over xs old)

-- a cell more, where there is room
pub indexes-snoc : (cells : List Address) (c : Address) (old : List ℕ) → length cells < length old
    → laid_over (indexes (cells ++ c ∷ [])) old ≡ slice_set (laid_over (indexes cells) old) (length cells) (number_of c)
indexes-snoc cells c old room =
    ap (λ l. laid_over l old) (map-append (λ d. number_of d) cells (c ∷ []))
    ∙ laid_over-snoc (indexes cells) old (number_of c) (rw length-map room)
    ∙ ap (λ n. slice_set (laid_over (indexes cells) old) n (number_of c)) (length-map cells (λ d. number_of d))

-- more cells, where there is no room
pub indexes-full : (cells more : List Address) (old : List ℕ) → length old ≤ length cells
    → laid_over (indexes (cells ++ more)) old ≡ laid_over (indexes cells) old
indexes-full cells more old full =
    ap (λ l. laid_over l old) (map-append (λ d. number_of d) cells more)
    ∙ laid_over-full (indexes cells) (indexes more) old (rw length-map full)

-- ---- the test of the room

pub is_no_more : (a b : ℕ) → a ≤ b → nat_le a b ≡ true
is_no_more a b h = le-leb a b h

pub is_more : (a b : ℕ) → b < a → nat_le a b ≡ false
is_more a b h = lt-leb a b h
