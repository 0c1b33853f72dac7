use Rattle.std.proofs.Common.{◌≡◌, map, take}
use Rattle.h3_c.specs.Lists.{laid_over}
use Rattle.h3_c.proofs.areas.put_numbers.Given as goal

abbrev pub invariant-loop-i : goal.invariant-loop-i
invariant-loop-i l = l.numbers ≡ laid_over (map (λ p. p.1) (take l.i l.pairs)) l.initial.numbers
