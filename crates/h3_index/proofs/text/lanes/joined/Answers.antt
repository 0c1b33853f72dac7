use Rattle.h3_index.proofs.LaneLaws.{joined_is}
use Rattle.h3_index.proofs.text.lanes.joined.Goals as goal

pub returns : goal.returns
returns c = joined_is c.args.digits c.requires.lanes c.requires.digits
