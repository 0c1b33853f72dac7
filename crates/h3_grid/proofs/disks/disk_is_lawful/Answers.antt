use Rattle.std.proofs.Common.{unsigned_abs}
use Rattle.h3_table.specs.BaseTable.{link_of}
use Rattle.h3_grid.proofs.disks.disk_is_lawful.Goals as goal

pub returns : goal.returns
returns c = λ cells written.
    let link = link_of c.args.table.now in
    let k = unsigned_abs c.args.k in
    let sound = c.links_are_sound.ensures in
    let valid = c.resolution-resolution.ensures.valid in
    record {
      inside = c.disks_are_spirals.ensures.inside link c.args.cell k cells sound valid written;
      states = c.disks_are_charts.ensures.written link c.args.cell k cells written;
      chart = c.disks_are_charts.ensures.charts link c.args.cell k cells sound valid written;
      paths = c.disks_are_charts.ensures.paths link c.args.cell k cells sound valid written;
      distances = c.disks_are_charts.ensures.distances link c.args.cell k cells sound valid written;
    }
