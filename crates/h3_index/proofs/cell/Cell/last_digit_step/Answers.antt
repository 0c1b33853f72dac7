use Rattle.h3_index.proofs.SiblingLaws.{unit_is}
use Rattle.h3_index.proofs.cell.Cell.last_digit_step.Goals as goal

pub returns-clause-is : goal.returns-clause-is
returns-clause-is c = unit_is c.args.self c.resolution.result c.resolution.ensures.number
