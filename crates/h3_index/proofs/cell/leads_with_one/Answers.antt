use Rattle.h3_index.proofs.DigitBitLaws.{leads_with_one_is}
use Rattle.h3_index.proofs.cell.leads_with_one.Goals as goal

pub returns : goal.returns
returns c = leads_with_one_is 15 c.args.digits
