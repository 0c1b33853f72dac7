use Rattle.std.proofs.Common.{inl, inr}
use Rattle.h3_regions.proofs.IntersectionLaws.{met}
use Rattle.h3_regions.proofs.intersection.write_shared.Goals as goal

pub merge_to-next-requires-clause-seen : goal.merge_to-next-requires-clause-seen
merge_to-next-requires-clause-seen c =
    c.skip_unshared-p.ensures.seen c.loop-i.slots c.loop-i.written c.loop-i.invariant.seen

pub returns-else-j-second-clause-shared : goal.returns-else-j-second-clause-shared
returns-else-j-second-clause-shared c =
    met c.cells_form_trees.ensures c.cells_form_intervals.ensures c.args.first.now c.args.second.now c.loop-i.slots
    c.requires.first_list c.requires.second_list c.loop-i.i c.loop-i.j c.loop-i.written c.loop-i.invariant.seen
    (inr c.if-j-second.false)

pub returns-after-loop-i-clause-shared : goal.returns-after-loop-i-clause-shared
returns-after-loop-i-clause-shared c =
    met c.cells_form_trees.ensures c.cells_form_intervals.ensures c.args.first.now c.args.second.now c.loop-i.slots
    c.requires.first_list c.requires.second_list c.loop-i.i c.loop-i.j c.loop-i.written c.loop-i.invariant.seen
    (inl c.loop-i-test.false)
