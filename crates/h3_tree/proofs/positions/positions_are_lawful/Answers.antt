use Rattle.h3_tree.proofs.PositionLaws.{members_have_positions, positions_have_members}
use Rattle.h3_tree.proofs.positions.positions_are_lawful.Goals as goal

pub returns-clause-members : goal.returns-clause-members
returns-clause-members c =
    members_have_positions c.descendants_are_known.ensures

pub returns-clause-positions : goal.returns-clause-positions
returns-clause-positions c =
    positions_have_members c.descendants_are_known.ensures
