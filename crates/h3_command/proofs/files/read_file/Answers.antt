use Rattle.std.proofs.Common.{◌≡◌, ◌++◌, None, Some, arith, drop, length, rules, take}
use Rattle.std.proofs.lemmas.Grind.{common_steps}
use Rattle.h3_lines.specs.Reads.{source_use}
use Rattle.h3_command.specs.Files.{file_error}
use Rattle.h3_command.specs.Rows.{list_form}
use Rattle.h3_command.proofs.FilesRead.{file_given, file_judged, file_refused}
use Rattle.h3_command.proofs.files.read_file.Goals as goal

pub returns-in-Ok-arrange-clause-cells : goal.returns-in-Ok-arrange-clause-cells
returns-in-Ok-arrange-clause-cells g c =
    let file = source_use g.T.Source.left g.T.Source.has_failed c.args.file.now c.read_numbered.new.input in
    let listed = c.in-Ok.cells.items in
    let new = c.arrange.new.cells in
    let none : file_error c.args.kind listed ≡ None = search rules in
    let whole : take c.in-Ok.cells.len (new ++ drop (length new) listed) ≡ new =
    first_of (search rules, grind (arith, common_steps)) in
    let arranged = rw c.deref_mut.ensures.value at c.in-Ok-arrange.ensures.arranged in
    let (bytes, held, gives) =
    file_given c.args.kind (list_form c.args.rows.now) file listed c.in-Ok.ensures.cells none in
    (bytes, held, listed, gives, rw whole arranged)

pub returns-in-Err-arrange-clause-refused : goal.returns-in-Err-arrange-clause-refused
returns-in-Err-arrange-clause-refused g c =
    let file = source_use g.T.Source.left g.T.Source.has_failed c.args.file.now c.read_numbered.new.input in
    let listed = c.in-Ok.cells.items in
    let is : file_error c.args.kind listed ≡ Some c.in-Err-arrange.error = search rules in
    file_judged c.args.kind (list_form c.args.rows.now) file listed c.in-Err-arrange.error c.in-Ok.ensures.cells is

pub returns-in-Err-clause-refused : goal.returns-in-Err-clause-refused
returns-in-Err-clause-refused g c =
    let file = source_use g.T.Source.left g.T.Source.has_failed c.args.file.now c.read_numbered.new.input in
    rw c.in_file.ensures (file_refused c.args.kind (list_form c.args.rows.now) file _ c.in-Err.ensures.refused)
