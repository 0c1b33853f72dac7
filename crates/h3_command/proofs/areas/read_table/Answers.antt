use Rattle.h3_lines.specs.Reads.{source_use}
use Rattle.h3_rows.specs.Named.{names_table}
use Rattle.h3_command.proofs.AreasRead.{areas_given, areas_refused}
use Rattle.h3_command.proofs.areas.read_table.Goals as goal

pub returns-in-Ok-clause-table : goal.returns-in-Ok-clause-table
returns-in-Ok-clause-table g c =
    let file = source_use g.T.Source.left g.T.Source.has_failed c.args.file.now c.read_areas.new.input in
    let (entries, all, named, cells, first, title) = c.in-Ok.ensures.areas in
    let (bytes, held, reads) =
    areas_given (names_table c.args.options.now.table) file entries c.in-Ok.ensures.sound all in (
      bytes,
      held,
      entries,
      reads,
      record { counts = c.in-Ok.ensures.quotes; named = named; cells = cells; title = title },
    )

pub returns-in-Err-clause-refused : goal.returns-in-Err-clause-refused
returns-in-Err-clause-refused g c =
    let file = source_use g.T.Source.left g.T.Source.has_failed c.args.file.now c.read_areas.new.input in
    rw c.in_file.ensures (areas_refused (names_table c.args.options.now.table) file _ c.in-Err.ensures.refused)
