use Rattle.h3_rows.proofs.Returns.{body_again, body_shorter, line_again}
use Rattle.h3_rows.proofs.line.row_of.Goals as goal

pub overflow_sub-result : goal.overflow_sub-result
overflow_sub-result c = rw c.row_body-body.ensures (body_shorter c.args.line.now)

pub invariant_of-result-clause-bare : goal.invariant_of-result-clause-bare
invariant_of-result-clause-bare c = rw c.row_body-body.ensures (body_again c.args.line.now)

pub returns : goal.returns
returns c = rw c.row_body-body.ensures (line_again c.args.line.now)
