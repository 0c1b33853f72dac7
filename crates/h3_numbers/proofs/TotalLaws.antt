-- Totals of integers, by what they gain and lose.
use Rattle.std.proofs.Common.{◌≡◌, ℕ, suc, List, [], ◌∷◌, sum_by, ℤ, pos, negsuc, neg_ℤ, ◌+ℤ◌, sym, ap, ◌∙◌, refl, arith}
use Rattle.std.proofs.lemmas.Int.{ints}
use Rattle.std.proofs.lemmas.List.Sorted.{sum_by-IsPermutation}
use Rattle.std.proofs.lemmas.List.Sums.{sum_by-cons}
use Rattle.h3_numbers.specs.Laws.{TotalsInAnyOrder, TotalsInParts}
use Rattle.h3_numbers.specs.Sum.{total}

-- the size of an integer of 0 or more
abbrev gain : ℤ → ℕ
gain (pos n) = n
gain (negsuc n) = 0

-- that of one below 0
abbrev loss : ℤ → ℕ
loss (pos n) = 0
loss (negsuc n) = suc n

balance : (x : ℤ) → x ≡ pos (gain x) +ℤ neg_ℤ (pos (loss x))
balance (pos n) = omega (arith, ints)
balance (negsuc n) = omega (arith, ints)

total_balance : (xs : List ℤ) → total xs ≡ pos (sum_by gain xs) +ℤ neg_ℤ (pos (sum_by loss xs))
total_balance [] = refl
total_balance (x ∷ xs) = omega (arith, ints, balance x, total_balance xs, sum_by-cons gain x xs, sum_by-cons loss x xs)

pub totals_in_any_order : TotalsInAnyOrder
totals_in_any_order xs ys moved =
    total_balance ys ∙ ap (λ n. pos n +ℤ neg_ℤ (pos (sum_by loss ys))) (sum_by-IsPermutation gain xs ys moved)
    ∙ ap (λ n. pos (sum_by gain xs) +ℤ neg_ℤ (pos n)) (sum_by-IsPermutation loss xs ys moved) ∙ sym (total_balance xs)

pub totals_in_parts : TotalsInParts
totals_in_parts [] ys = omega (arith, ints)
totals_in_parts (x ∷ xs) ys = omega (arith, ints, totals_in_parts xs ys)
