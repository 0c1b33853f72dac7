-- What stands above a cell, and its center below.
use Rattle.std.specs.Int.Digits.{AllBelowBase}
use Rattle.std.proofs.Common.{ℕ, zero, suc, ◌≡◌, ◌-◌, ◌<◌, ◌≤◌, ◌==◌, List, [], ◌∷◌, ◌++◌, length, take, replicate, false, refl, arith, length-append, ◌∙◌, sym, ap, lit<}
use Rattle.std.proofs.Math.ListN.{length-replicate}
use Rattle.std.proofs.Math.Seq.{take-append_seam}
use Rattle.std.proofs.lemmas.Bool.Decides.{nat_tests}
use Rattle.std.proofs.lemmas.List.{length-take-le}
use Rattle.h3_index.specs.Cell.{Address, IsCell, leading}
use Rattle.h3_index.specs.Descendants.{along, ancestor_at, IsDescendant}

same : (b : ℕ) (xs ys : List ℕ) → xs ≡ ys
    → ◌≡◌ {A = Address} (record { base = b; digits = xs }) (record { base = b; digits = ys })
same b xs ys e = ap {B = Address} (λ zs. record { base = b; digits = zs }) e

pub address_same : (a b : Address) → a.base ≡ b.base → a.digits ≡ b.digits → a ≡ b
address_same a b e f =
    same a.base a.digits b.digits f ∙ ap {B = Address} (λ n. record { base = n; digits = b.digits }) e

pub length-ancestor_at : (c : Address) (q : ℕ) → q ≤ length c.digits → length (ancestor_at c q).digits ≡ q
length-ancestor_at c q h = length-take-le q c.digits h

take_small : (q : ℕ) (xs : List ℕ) → AllBelowBase 7 xs → AllBelowBase 7 (take q xs)
take_small zero xs h = tt
take_small (suc q) [] h = tt
take_small (suc q) (x ∷ xs) h = (h.0, take_small q xs h.1)

pub not_zero : (x : ℕ) → (suc x == 0) ≡ false
not_zero x = grind (arith, nat_tests)

-- a front has the same first digit that is not 0, or none
leading-take : (q : ℕ) (xs : List ℕ) → leading (take q xs) ≡ 1 → leading xs ≡ 1
leading-take zero xs h = absurd (omega (arith, h))
leading-take (suc q) [] h = h
leading-take (suc q) (zero ∷ xs) h = leading-take q xs h
leading-take (suc q) (suc x ∷ xs) h = let z = not_zero x in rw z (rw z at h)

-- what is above a cell is a cell
pub cut_cell : (c : Address) (q : ℕ) → IsCell c → q ≤ length c.digits → IsCell (ancestor_at c q)
cut_cell c q h le =
    record {
      base_small = h.base_small;
      coarse = omega (arith, h.coarse, length-ancestor_at c q le);
      digits_small = take_small q c.digits h.digits_small;
      not_deleted = λ t e. h.not_deleted t (leading-take q c.digits e);
    }

pub below_replicate : (k : ℕ) → AllBelowBase 7 (replicate k 0)
below_replicate zero = tt
below_replicate (suc k) = (lit< tt, below_replicate k)

pub below_append : (xs ys : List ℕ) → AllBelowBase 7 xs → AllBelowBase 7 ys → AllBelowBase 7 (xs ++ ys)
below_append [] ys p q = q
below_append (x ∷ xs) ys p q = (p.0, below_append xs ys p.1 q)

pub leading_zeros : (k : ℕ) → leading (replicate k 0) ≡ 0
leading_zeros zero = refl
leading_zeros (suc k) = leading_zeros k

pub leading-zeros_after : (xs : List ℕ) (k : ℕ) → leading (xs ++ replicate k 0) ≡ leading xs
leading-zeros_after [] k = leading_zeros k
leading-zeros_after (zero ∷ xs) k = leading-zeros_after xs k
leading-zeros_after (suc x ∷ xs) k = let z = not_zero x in rw z refl

-- a cell has a descendant at each finer resolution
pub center : (c : Address) (s : ℕ) → IsCell c → length c.digits ≤ s → s < 16
    → IsDescendant c s (along c (replicate (s - length c.digits) 0))
center c s h le fine =
    let size : length (c.digits ++ replicate (s - length c.digits) 0) ≡ s =
    omega (
      arith,
      length-append c.digits (replicate (s - length c.digits) 0),
      length-replicate {A = ℕ} (s - length c.digits) 0,
    ) in
    record {
      valid = record {
        base_small = h.base_small;
        coarse = omega (arith, size);
        digits_small = below_append c.digits _ h.digits_small (below_replicate (s - length c.digits));
        not_deleted = λ t e. h.not_deleted t (sym (leading-zeros_after c.digits (s - length c.digits)) ∙ e);
      };
      resolution_is = size;
      under = same c.base _ _ (take-append_seam c.digits _);
    }
