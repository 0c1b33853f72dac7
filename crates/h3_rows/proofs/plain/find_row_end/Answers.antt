use Rattle.h3_rows.proofs.WholeFields.{calm_row}
use Rattle.h3_rows.proofs.plain.find_row_end.Goals as goal

pub returns-clause-whole : goal.returns-clause-whole
returns-clause-whole c = calm_row c.args.separator c.args.quotes c.requires.quote _ c.in_ok-end.ensures.passed
