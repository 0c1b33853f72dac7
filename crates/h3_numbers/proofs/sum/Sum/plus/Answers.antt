use Rattle.std.proofs.Common.{arith}
use Rattle.std.proofs.lemmas.Int.{ints}
use Rattle.h3_numbers.proofs.sum.Sum.plus.Goals as goal

pub returns-clause-units : goal.returns-clause-units
returns-clause-units c = omega (arith, ints)
