use Rattle.h3_rows.proofs.Beside.{never_inside}
use Rattle.h3_rows.proofs.function.ShortRowFunction.put_short.Goals as goal

pub returns-in-Ok-clause-some : goal.returns-in-Ok-clause-some
returns-in-Ok-clause-some g c = record { puts = c.in-Ok.ensures.ok; closed = never_inside c.in-Ok.ensures.ok.text }
