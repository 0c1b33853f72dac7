use Rattle.h3_index.proofs.LaneLaws.{lowered_lanes}
use Rattle.h3_index.proofs.text.lanes.lowered.Goals as goal

pub returns : goal.returns
returns c = lowered_lanes c.args.bytes c.requires c.fits-bytes.1
