use Rattle.std.proofs.Common.{eq-eqb, eqb-true}
use Rattle.h3_index.proofs.LaneLaws.{below_sixteen, no_high_bits}
use Rattle.h3_index.proofs.text.lanes.are_below_sixteen.Goals as goal

pub returns-clause-below : goal.returns-clause-below
returns-clause-below c = λ none. below_sixteen c.args.lanes c.requires c.fits-lanes.1 (eqb-true _ _ none)

pub returns-clause-back : goal.returns-clause-back
returns-clause-back c = λ small. eq-eqb _ _ (no_high_bits c.args.lanes c.requires small)
