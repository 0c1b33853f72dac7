use Rattle.h3_rows.proofs.Masks.{one_line}
use Rattle.h3_rows.proofs.lanes.is_one_line.Goals as goal

pub returns-then-run-lt-LANES : goal.returns-then-run-lt-LANES
returns-then-run-lt-LANES c is =
    one_line c.args.bytes.now c.args.at c.run_before-run.result c.args.end c.requires c.if-run-lt-LANES.true is
    c.run_before-run.ensures
