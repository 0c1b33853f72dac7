use Rattle.h3_table.specs.BaseTable.{link_of}
use Rattle.h3_grid.proofs.neighbors.neighbor_is_lawful.Goals as goal

pub returns-clause-found : goal.returns-clause-found
returns-clause-found c = c.neighbors_are_lawful.ensures.found (link_of c.args.table.now) c.links_are_sound.ensures

pub returns-clause-one_direction : goal.returns-clause-one_direction
returns-clause-one_direction c =
    c.neighbors_are_lawful.ensures.one_direction (link_of c.args.table.now) c.links_are_sound.ensures

pub returns-clause-differ : goal.returns-clause-differ
returns-clause-differ c = c.neighbors_are_lawful.ensures.differ (link_of c.args.table.now) c.links_are_sound.ensures

pub returns-clause-mutual : goal.returns-clause-mutual
returns-clause-mutual c = c.neighbors_are_lawful.ensures.mutual (link_of c.args.table.now) c.links_are_sound.ensures

pub returns-clause-both : goal.returns-clause-both
returns-clause-both c = c.neighbors_are_lawful.ensures.both (link_of c.args.table.now) c.links_are_sound.ensures

pub returns-clause-related : goal.returns-clause-related
returns-clause-related c = c.neighbors_are_lawful.ensures.related (link_of c.args.table.now) c.links_are_sound.ensures
