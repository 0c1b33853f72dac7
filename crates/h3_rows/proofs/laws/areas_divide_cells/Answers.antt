use Rattle.h3_rows.proofs.AreaFields.{entries_are_fields, names_are_fields}
use Rattle.h3_rows.proofs.AreaNames.{areas_have_cells, cells_have_areas, names_stand_once, numbers_are_of_names}
use Rattle.h3_rows.proofs.laws.areas_divide_cells.Goals as goal

pub returns-clause-each : goal.returns-clause-each
returns-clause-each c = cells_have_areas

pub returns-clause-numbers : goal.returns-clause-numbers
returns-clause-numbers c = numbers_are_of_names

pub returns-clause-cells : goal.returns-clause-cells
returns-clause-cells c = areas_have_cells

pub returns-clause-once : goal.returns-clause-once
returns-clause-once c = names_stand_once

pub returns-clause-entries : goal.returns-clause-entries
returns-clause-entries c = entries_are_fields

pub returns-clause-fields : goal.returns-clause-fields
returns-clause-fields c = names_are_fields
