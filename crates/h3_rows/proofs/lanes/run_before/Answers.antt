use Rattle.h3_rows.proofs.Masks.{stops_after}
use Rattle.h3_rows.proofs.lanes.run_before.Goals as goal

pub returns : goal.returns
returns c =
    stops_after c.args.first c.args.second c.args.third c.args.fourth c.args.bytes.now c.args.at c.first_set.result
    c.requires c.first_set.ensures
