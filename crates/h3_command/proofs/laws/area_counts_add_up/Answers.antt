use Rattle.h3_command.proofs.AreasCounted.{printed_area_counts}
use Rattle.h3_command.proofs.laws.area_counts_add_up.Goals as goal

pub returns : goal.returns
returns c =
    let areas = c.areas_are_lawful.ensures in
    printed_area_counts areas.add_up areas.clashes c.areas_divide_cells.ensures.numbers
