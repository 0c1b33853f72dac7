use Rattle.h3_index.proofs.DigitBitLaws.{sevens_are}
use Rattle.h3_index.proofs.cell.is_seven_after.Goals as goal

pub returns : goal.returns
returns c = sevens_are c.args.place c.args.raw c.requires
