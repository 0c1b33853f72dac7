use Rattle.h3_table.specs.BaseTable.{link_of}
use Rattle.h3_grid.proofs.steps.step_is_lawful.Goals as goal

pub returns-clause-states : goal.returns-clause-states
returns-clause-states c = c.steps_are_lawful.ensures.states (link_of c.args.table.now) c.links_are_sound.ensures

pub returns-clause-reverse : goal.returns-clause-reverse
returns-clause-reverse c = c.steps_are_lawful.ensures.reverse (link_of c.args.table.now) c.links_are_sound.ensures

pub returns-clause-differ : goal.returns-clause-differ
returns-clause-differ c = c.steps_are_lawful.ensures.differ (link_of c.args.table.now) c.links_are_sound.ensures

pub returns-clause-leave : goal.returns-clause-leave
returns-clause-leave c = c.steps_are_lawful.ensures.leave (link_of c.args.table.now) c.links_are_sound.ensures

pub returns-clause-triangles : goal.returns-clause-triangles
returns-clause-triangles c = c.steps_are_lawful.ensures.triangles (link_of c.args.table.now) c.links_are_sound.ensures
