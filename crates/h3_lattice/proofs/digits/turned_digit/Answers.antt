use Rattle.h3_lattice.proofs.TurnLaws.{turned_is}
use Rattle.h3_lattice.proofs.digits.turned_digit.Goals as goal

pub returns : goal.returns
returns c = turned_is c.args.n c.args.digit c.requires
