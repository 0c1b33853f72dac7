use Rattle.h3_command.proofs.RunEndings.{run_meets_contract}
use Rattle.h3_command.proofs.PrintedCounts.{printed_counts}
use Rattle.h3_command.proofs.run.run_over.Goals as goal

pub returns-clause-runs : goal.returns-clause-runs
returns-clause-runs g c = run_meets_contract _ _ _ _ c.perform-ending.ensures.ends c.report.ensures.reported

pub returns-clause-counts : goal.returns-clause-counts
returns-clause-counts g c = printed_counts c.counts_add_up.ensures.whole
