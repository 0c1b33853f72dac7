use Rattle.std.proofs.Common.{◌/◌, ◌^◌, ◌-◌, ◌*◌}
use Rattle.std.proofs.lemmas.Nat.{and_mask}
use Rattle.h3_index.proofs.CellLaws.{digit-address_in}
use Rattle.h3_index.proofs.cell.Cell.digit.Goals as goal

pub returns : goal.returns
returns c =
    rw (← c.self.view_is, and_mask (c.self.inside.raw / 2 ^ (45 - 3 * c.args.r)) 3)
    (digit-address_in c.self.inside.raw c.args.r c.self.invariant c.requires.some c.requires.at_most)
