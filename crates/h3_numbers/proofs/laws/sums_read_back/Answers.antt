use Rattle.h3_numbers.proofs.ShortLaws.{sums_are_shortest}
use Rattle.h3_numbers.proofs.TextLaws.{sums_read_back}
use Rattle.h3_numbers.proofs.laws.sums_read_back.Goals as goal

pub returns-clause-same : goal.returns-clause-same
returns-clause-same c = sums_read_back

pub returns-clause-shortest : goal.returns-clause-shortest
returns-clause-shortest c = sums_are_shortest
