use Rattle.h3_table.proofs.table.BaseTable.link.Goals as goal

pub returns-clause-within : goal.returns-clause-within
returns-clause-within c =
    rw c.link_at.ensures.is
    (c.args.self.now.sound.within c.args.base c.args.direction (c.requires.some, c.requires.hexagon))
