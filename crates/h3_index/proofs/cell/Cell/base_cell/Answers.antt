use Rattle.std.proofs.Common.{◌/◌, ◌^◌}
use Rattle.std.proofs.lemmas.Nat.{and_mask}
use Rattle.h3_index.proofs.CellLaws.{base-address_in}
use Rattle.h3_index.proofs.cell.Cell.base_cell.Goals as goal

pub returns-clause-number : goal.returns-clause-number
returns-clause-number c = rw (← c.self.view_is, base-address_in) (and_mask (c.self.inside.raw / 2 ^ 45) 7)
