-- Cells of a list that are answered as a whole: the list is bare or has rows, and gives its cells or is refused.
-- Private contracts and proofs alone cite this file.
use Rattle.std.specs.Prelude.{◌^◌, List, Option, None, Some}
use Rattle.h3_index.specs.Cell.{Address}
use Rattle.h3_lines.specs.List.{Says, itself}
use Rattle.h3_lines.specs.ListRead.{ListRead, ListRefused, RefusesByError, RefusesByLine}
use Rattle.h3_lines.specs.Reads.{SourceUse}
use Rattle.h3_lines.specs.declared.run_error.RunError.{RunError}
use Rattle.h3_rows.specs.Cells.{RefusesRows}
use Rattle.h3_rows.specs.RowsAnswer.{Form}
use Rattle.h3_command.specs.Run.{GivesRows}

-- a list is read to its end, and these are taken for its cells
abbrev pub GivesCells : Says → Option Form → SourceUse → List Address → Type 0
GivesCells says None input cells = ListRead says (2 ^ 40) 65536 input cells
GivesCells says (Some form) input cells = GivesRows form input cells

-- a list is refused
abbrev pub RefusesCells : Option Form → SourceUse → RunError → Type 0
RefusesCells None input e = ListRefused itself RefusesByError (2 ^ 40) 65536 input e
RefusesCells (Some form) input e = RefusesRows form input.left input.left_after input.had_failed input.has_failed e

-- the same, where the error of a faulty line is reported with its number
abbrev pub RefusesNumbered : Says → Option Form → SourceUse → RunError → Type 0
RefusesNumbered says None input e = ListRefused says RefusesByLine (2 ^ 40) 65536 input e
RefusesNumbered says (Some form) input e =
    RefusesRows form input.left input.left_after input.had_failed input.has_failed e
