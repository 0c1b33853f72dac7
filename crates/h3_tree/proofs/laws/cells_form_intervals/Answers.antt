use Rattle.h3_tree.proofs.PostOrderLaws.{cells_form_intervals as intervals}
use Rattle.h3_tree.proofs.laws.cells_form_intervals.Goals as goal

pub returns : goal.returns
returns c = intervals
