use Rattle.std.proofs.Common.{lit<}
use Rattle.h3_index.proofs.DigitsLaws.{below-last_digits}
use Rattle.h3_index.proofs.text.lanes.write_sixteen.Goals as goal

pub lettered-requires-clause-digits : goal.lettered-requires-clause-digits
lettered-requires-clause-digits c = rw c.apart.ensures (below-last_digits 16 16 c.args.number (lit< tt))
