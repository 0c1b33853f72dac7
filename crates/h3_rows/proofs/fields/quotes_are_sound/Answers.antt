use Rattle.h3_rows.proofs.Feeds.{no_quotes}
use Rattle.h3_rows.proofs.fields.quotes_are_sound.Goals as goal

pub returns-in-None : goal.returns-in-None
returns-in-None c = no_quotes c.args.separator c.args.row.now c.in-None.ensures
