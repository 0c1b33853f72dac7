use Rattle.h3_index.proofs.CountLaws.{cells_up_to_listed}
use Rattle.h3_index.proofs.laws.cells_are_listed.Goals as goal

pub returns : goal.returns
returns c = cells_up_to_listed
