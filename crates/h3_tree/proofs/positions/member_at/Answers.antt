use Rattle.std.proofs.Common.{arith}
use Rattle.h3_tree.proofs.WalkLaws.{reached_start, reached_within, reached_end, reached_place}
use Rattle.h3_tree.proofs.positions.member_at.Goals as goal

pub loop-level-init : goal.loop-level-init
loop-level-init c =
    reached_start c.descendants_are_known.ensures c.args.cell c.args.r c.args.position c.resolution-level.result
    c.resolution-level.ensures.valid c.requires.not_coarser c.requires.at_most_fifteen c.requires.within
    c.resolution-level.ensures.number

pub child_below-requires-clause-within : goal.child_below-requires-clause-within
child_below-requires-clause-within c =
    reached_within c.descendants_are_known.ensures c.args.cell c.args.r c.args.position c.loop-level.level
    c.loop-level.left c.loop-level.member c.loop-level-test.true c.requires.at_most_fifteen c.loop-level.invariant

pub loop-level-preserved : goal.loop-level-preserved
loop-level-preserved c =
    record {
      valid = c.child_below.ensures.valid;
      level_is = omega (arith, c.child_below.ensures.level, c.loop-level.invariant.level_is);
      below = c.child_below.ensures.below _ c.loop-level.invariant.below;
    }

pub returns-clause-is : goal.returns-clause-is
returns-clause-is c =
    reached_end c.args.cell c.args.r c.args.position c.loop-level.level c.loop-level.left c.loop-level.member
    c.loop-level-test.false c.requires.within c.loop-level.invariant

pub returns-clause-position_is : goal.returns-clause-position_is
returns-clause-position_is c =
    reached_place c.descendants_are_known.ensures c.args.cell c.args.r c.args.position c.loop-level.member
    c.resolution-level.ensures.valid c.requires.not_coarser c.requires.at_most_fifteen (returns-clause-is c)
