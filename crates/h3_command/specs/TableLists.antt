-- Answers about the index on each line of a list, over the links of a base cell table.
use Rattle.std.specs.Prelude.{ℕ, Option, Result}
use Rattle.h3_index.specs.Cell.{Address}
use Rattle.h3_index.specs.declared.error.H3Error.{H3Error}
use Rattle.h3_table.specs.Links.{Links}
use Rattle.h3_functions.specs.Edges.{get_directed_edge_destination}
use Rattle.h3_functions.specs.Inspection.{for_value}
use Rattle.h3_lines.specs.Answer.{Answer, cell_line, printed}
use Rattle.h3_command.specs.Required.{edge_given}

-- the cell to which the edge with an index leads
abbrev pub destination_of : Links → Option ℕ → Result Address H3Error
destination_of link index = for_value (get_directed_edge_destination link) (edge_given index)

-- destination_answer link index: the line of the cell to which the edge with an index leads, or the error where there
-- is no such edge, or where its step is refused
abbrev pub destination_answer : Links → Option ℕ → Answer
destination_answer link index = printed cell_line (destination_of link index)
