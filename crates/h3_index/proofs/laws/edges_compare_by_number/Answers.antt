use Rattle.h3_index.proofs.EdgeOrderLaws.{edges_order}
use Rattle.h3_index.proofs.laws.edges_compare_by_number.Goals as goal

pub returns-clause-fields : goal.returns-clause-fields
returns-clause-fields c = edges_order
