use Rattle.h3_rows.proofs.Feeds.{no_feeds}
use Rattle.h3_rows.proofs.reading.feeds.Goals as goal

pub returns-in-None-clause-value : goal.returns-in-None-clause-value
returns-in-None-clause-value c = no_feeds c.args.row.now c.in-None.ensures
