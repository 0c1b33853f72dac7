use Rattle.h3_index.proofs.LaneLaws.{taken_apart}
use Rattle.h3_index.proofs.text.lanes.apart.Goals as goal

pub returns : goal.returns
returns c = taken_apart c.args.number
