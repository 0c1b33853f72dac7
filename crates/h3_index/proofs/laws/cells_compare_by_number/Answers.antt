use Rattle.h3_index.proofs.OrderLaws.{fields_order}
use Rattle.h3_index.proofs.laws.cells_compare_by_number.Goals as goal

pub returns-clause-fields : goal.returns-clause-fields
returns-clause-fields c = fields_order
