use Rattle.std.proofs.Common.{◌≡◌, pos, arith, ap, unsigned_abs}
use Rattle.std.proofs.lemmas.Int.{ints}
use Rattle.h3_tree.proofs.descendants.children.Goals as goal

pub returns-clause-members : goal.returns-clause-members
returns-clause-members c = λ x.
    let same : pos c.in_ok-r.r ≡ c.args.res = omega (arith, ints, c.in_ok-r.ensures.is) in
    rw (← (ap unsigned_abs same)) (c.children_at.ensures.members x)
