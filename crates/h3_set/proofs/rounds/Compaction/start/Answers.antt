use Rattle.h3_set.proofs.PartLaws.{reached}
use Rattle.h3_set.proofs.PermutedLaws.{started_in_front}
use Rattle.h3_set.proofs.rounds.Compaction.start.Goals as goal

pub returns-clause-started : goal.returns-clause-started
returns-clause-started c =
    started_in_front c.args.cells.now c.copy_from_slice.new.self c.start_in_place.new.cells _ _
    c.copy_from_slice.ensures.after c.start_in_place.result c.start_in_place.auto.cells
    c.start_in_place.ensures.started

pub returns-clause-last : goal.returns-clause-last
returns-clause-last c = reached c.cells_form_trees.ensures
