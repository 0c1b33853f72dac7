-- The tests of cells and of their numbers decide what they test.
use Rattle.std.specs.List.{list_all}
use Rattle.std.specs.Int.Digits.{AllBelowBase}
use Rattle.std.specs.Cmp.Derive.{both_true}
use Rattle.std.proofs.Common.{ℕ, ◌≡◌, ◌≢◌, ◌==◌, nat_lt, List, [], ◌∷◌, length, Bool, true, false, not, ◌&&◌, Some, None, if◌then◌else◌, refl, arith}
use Rattle.std.proofs.lemmas.Bool.{and_parts}
use Rattle.std.proofs.lemmas.Bool.Decides.{nat_tests}
use Rattle.h3_index.specs.Cell.{Address, IsCell, is_pentagon_base, leading, number_of}
use Rattle.h3_index.specs.CellNumber.{address_in, IsCellNumber, is_cell, cell_in}

small-true : (ds : List ℕ) → AllBelowBase 7 ds → list_all (λ d. nat_lt d 7) ds ≡ true
small-true [] h = refl
small-true (d ∷ ds) h = both_true (let small = h.0 in grind (arith, nat_tests)) (small-true ds h.1)

true-small : (ds : List ℕ) → list_all (λ d. nat_lt d 7) ds ≡ true → AllBelowBase 7 ds
true-small [] h = tt
true-small (d ∷ ds) h =
    let p = and_parts (nat_lt d 7) (list_all (λ d. nat_lt d 7) ds) h in
    (let first = p.0 in grind (arith, nat_tests), true-small ds p.1)

pub not_deleted-true : (p : Bool) (d : ℕ) → (p ≡ true → d ≢ 1) → not (p && d == 1) ≡ true
not_deleted-true false d h = refl
not_deleted-true true d h = let other = h refl in let test : (d == 1) ≡ false = grind (arith, nat_tests) in rw test refl

pub true-not_deleted : (p : Bool) (d : ℕ) → not (p && d == 1) ≡ true → p ≡ true → d ≢ 1
true-not_deleted false d h e = absurd (cc)
true-not_deleted true d h e = λ is.
    let test : (d == 1) ≡ true = grind (arith, nat_tests) in let no : not (true && d == 1) ≡ false = rw test refl in cc

pub is_cell-true : (c : Address) → IsCell c → is_cell c ≡ true
is_cell-true c h =
    let base = h.base_small in
    let coarse = h.coarse in
    let base_test : nat_lt c.base 122 ≡ true = grind (arith, nat_tests) in
    let coarse_test : nat_lt (length c.digits) 16 ≡ true = grind (arith, nat_tests) in
    both_true (both_true (both_true base_test coarse_test) (small-true c.digits h.digits_small))
    (not_deleted-true (is_pentagon_base c.base) (leading c.digits) h.not_deleted)

pub true-is_cell : (c : Address) → is_cell c ≡ true → IsCell c
true-is_cell c h =
    let all = and_parts _ _ h in
    let numbers = and_parts _ _ all.0 in
    let sizes = and_parts (nat_lt c.base 122) (nat_lt (length c.digits) 16) numbers.0 in
    record {
      base_small = (let test = sizes.0 in grind (arith, nat_tests));
      coarse = (let test = sizes.1 in grind (arith, nat_tests));
      digits_small = true-small c.digits numbers.1;
      not_deleted = true-not_deleted (is_pentagon_base c.base) (leading c.digits) all.1;
    }

pub cell_in-some : (m : ℕ) → IsCellNumber m → cell_in m ≡ Some (address_in m)
unfolding cell_in
cell_in-some m h =
    let is = h.is in
    let same : (number_of (address_in m) == m) ≡ true = grind (arith, nat_tests) in
    rw (is_cell-true (address_in m) h.valid, same) refl

if-none : (b : Bool) (c : Address) → (b ≡ true → ⊥) → (if b then Some c else None) ≡ None
if-none false c h = refl
if-none true c h = absurd (h refl)

pub cell_in-none : (m : ℕ) → ((c : Address) → IsCell c → number_of c ≢ m) → cell_in m ≡ None
unfolding cell_in
cell_in-none m h =
    if-none (is_cell (address_in m) && number_of (address_in m) == m) (address_in m) (λ test.
    let parts = and_parts (is_cell (address_in m)) (number_of (address_in m) == m) test in
    let same = parts.1 in
    h (address_in m) (true-is_cell (address_in m) parts.0) (grind (arith, nat_tests)))
