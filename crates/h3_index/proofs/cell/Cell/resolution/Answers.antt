use Rattle.std.proofs.Common.{◌/◌, ◌^◌}
use Rattle.std.proofs.lemmas.Nat.{and_mask}
use Rattle.h3_index.proofs.CellLaws.{length-address_in}
use Rattle.h3_index.proofs.cell.Cell.resolution.Goals as goal

pub returns-clause-number : goal.returns-clause-number
returns-clause-number c = rw (← c.self.view_is, length-address_in) (and_mask (c.self.inside.raw / 2 ^ 52) 4)
