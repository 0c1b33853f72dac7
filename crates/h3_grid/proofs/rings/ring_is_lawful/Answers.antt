use Rattle.std.proofs.Common.{unsigned_abs}
use Rattle.h3_table.specs.BaseTable.{link_of}
use Rattle.h3_grid.proofs.rings.ring_is_lawful.Goals as goal

pub returns : goal.returns
returns c = λ some cells written.
    c.disks_are_charts.ensures.rings (link_of c.args.table.now) c.args.cell (unsigned_abs c.args.k) cells
    c.links_are_sound.ensures c.resolution-resolution.ensures.valid some written
