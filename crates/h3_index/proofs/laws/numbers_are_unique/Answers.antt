use Rattle.h3_index.proofs.CellLaws.{same_from_number}
use Rattle.h3_index.proofs.laws.numbers_are_unique.Goals as goal

pub returns : goal.returns
returns c = same_from_number
