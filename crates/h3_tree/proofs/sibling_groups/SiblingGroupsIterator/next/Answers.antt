use Rattle.std.proofs.Common.{ap, arith, length}
use Rattle.h3_tree.specs.SiblingGroups.{parents_left}
use Rattle.h3_tree.proofs.SiblingGroupLaws.{coarse_rest}
use Rattle.h3_tree.proofs.sibling_groups.SiblingGroupsIterator.next.Goals as goal

pub invariant_of-self : goal.invariant_of-self
invariant_of-self c = record {
  coarse =
      coarse_rest c.args.self.now.parents c.next.new.self c.next.result c.next.ensures.steps c.args.self.now.coarse;
}

pub returns-in_err-parent-clause-steps : goal.returns-in_err-parent-clause-steps
unfolding parents_left
returns-in_err-parent-clause-steps c = rw c.from_residual.ensures c.in_err-parent.ensures.steps

pub returns-clause-steps : goal.returns-clause-steps
unfolding parents_left
returns-clause-steps c = rw c.below.ensures c.in_ok-parent.ensures.steps

pub returns-clause-goes : goal.returns-clause-goes
returns-clause-goes c =
    let fewer = ap length (returns-clause-steps c) in
    record { on = λ _. (tt, tt, omega (arith, fewer)); keeps = tt; rests = λ _. tt }
