use Rattle.std.proofs.Common.{◌≡◌, ◌++◌, ℕ, List, length, take}
use Rattle.h3_c.specs.Lists.{laid_over}
use Rattle.h3_c.proofs.overlapping.put_numbers_from.Given as goal

abbrev pub invariant-loop-i : goal.invariant-loop-i
invariant-loop-i l =
    (before : List ℕ) → (first : List ℕ) → length before ≡ l.fn.place → l.initial.out ≡ laid_over before first
    → l.out ≡ laid_over (before ++ take l.i l.numbers) first
