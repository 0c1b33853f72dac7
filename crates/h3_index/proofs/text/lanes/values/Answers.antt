use Rattle.h3_index.proofs.LaneLaws.{values_digits, values_long, values_others}
use Rattle.h3_index.proofs.text.lanes.values.Goals as goal

pub returns-clause-lanes : goal.returns-clause-lanes
returns-clause-lanes c = values_long c.args.bytes c.requires

pub returns-clause-digits : goal.returns-clause-digits
returns-clause-digits c = values_digits c.args.bytes c.requires c.fits-bytes.1

pub returns-clause-others : goal.returns-clause-others
returns-clause-others c = values_others c.args.bytes c.requires c.fits-bytes.1
