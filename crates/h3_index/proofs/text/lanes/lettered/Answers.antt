use Rattle.h3_index.proofs.LaneLaws.{lettered_is, letters_found}
use Rattle.h3_index.proofs.text.lanes.lettered.Goals as goal

pub swizzle : goal.swizzle
swizzle c = letters_found c.args.digits c.requires.lanes c.requires.digits

pub returns : goal.returns
returns c = lettered_is c.args.digits c.requires.lanes c.requires.digits
