use Rattle.h3_command.proofs.AddedUp.{sums_in_parts}
use Rattle.h3_command.proofs.PrintedSums.{printed_sums}
use Rattle.h3_command.proofs.laws.area_sums_add_up.Goals as goal

pub returns-clause-whole : goal.returns-clause-whole
returns-clause-whole c =
    let areas = c.areas_are_lawful.ensures in
    printed_sums areas.add_up areas.clashes c.areas_divide_cells.ensures.numbers areas.tested areas.one
    c.totals_are_lawful.ensures.parts

pub returns-clause-parts : goal.returns-clause-parts
returns-clause-parts c = sums_in_parts c.totals_are_lawful.ensures.parts
