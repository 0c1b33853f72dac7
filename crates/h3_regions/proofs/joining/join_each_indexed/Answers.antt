use Rattle.h3_regions.proofs.JoiningLaws.{all_joined}
use Rattle.h3_regions.proofs.joining.join_each_indexed.Goals as goal

pub returns : goal.returns
returns c =
    all_joined c.args.index.now c.args.cells.now c.loop-i.places c.loop-i.i c.loop-i-test.false c.loop-i.invariant
