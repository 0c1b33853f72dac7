use Rattle.std.proofs.Common.{◌≡◌, arith, unsigned_abs}
use Rattle.std.proofs.lemmas.Int.{ints}
use Rattle.h3_tree.proofs.LastChildLaws.{way_end}
use Rattle.h3_tree.proofs.descendants.last_child.Goals as goal

pub returns-clause-greatest : goal.returns-clause-greatest
returns-clause-greatest c = λ x h.
    let same : unsigned_abs c.args.res ≡ c.in_ok-r.r = omega (arith, ints, c.in_ok-r.ensures.is) in
    way_end c.args.cell c.in_ok-r.r c.loop-last.last x c.loop-last.invariant
    (omega (arith, c.loop-last-test.false, c.resolution.ensures.number)) c.resolution.ensures.valid (rw same at h)
