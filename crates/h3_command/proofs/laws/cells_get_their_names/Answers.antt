use Rattle.h3_command.proofs.Joining.{cells_get_their_names, names_are_of_rows, names_differ, one_name_each, others_get_none}
use Rattle.h3_command.proofs.laws.cells_get_their_names.Goals as goal

pub returns-clause-own : goal.returns-clause-own
returns-clause-own c = cells_get_their_names c.areas_divide_cells.ensures.each c.areas_are_lawful.ensures.listed

pub returns-clause-of_rows : goal.returns-clause-of_rows
returns-clause-of_rows c = names_are_of_rows c.areas_divide_cells.ensures.each c.areas_are_lawful.ensures.listed

pub returns-clause-differ : goal.returns-clause-differ
returns-clause-differ c =
    names_differ c.areas_are_lawful.ensures.listed c.areas_divide_cells.ensures.numbers
    c.areas_divide_cells.ensures.once

pub returns-clause-one : goal.returns-clause-one
returns-clause-one c =
    let areas = c.areas_are_lawful.ensures in
    one_name_each areas.listed areas.clashes areas.one

pub returns-clause-others : goal.returns-clause-others
returns-clause-others c = others_get_none c.areas_are_lawful.ensures.listed
