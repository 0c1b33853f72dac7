use Rattle.std.proofs.Common.{◌≡◌, ◌+◌, ℕ}
use Rattle.h3_command.proofs.Summing.{IsChanging}
use Rattle.h3_command.proofs.overlap_tally.add_one_to_each.Given as goal

abbrev pub invariant-loop-i : goal.invariant-loop-i
invariant-loop-i l = IsChanging ℕ (λ a b. b ≡ a + 1) l.places l.initial.counts l.counts l.i
