use Rattle.h3_numbers.specs.declared.sum.Sum.{Sum}
use Rattle.h3_command.specs.SumTally.{IsOneMore}
use Rattle.h3_command.proofs.Summing.{IsChanging}
use Rattle.h3_command.proofs.sum_tally.add_to_each.Given as goal

abbrev pub invariant-loop-i : goal.invariant-loop-i
invariant-loop-i l = IsChanging Sum (IsOneMore l.number) l.places l.initial.sums l.sums l.i
