use Rattle.std.proofs.Common.{refl}
use Rattle.std.proofs.KnownBytes.{Keeps-refl}
use Rattle.std.proofs.lemmas.Result.{err_from_is_err_and}
use Rattle.h3_lines.specs.Reads.{source_use}
use Rattle.h3_lines.specs.Write.{sink_use}
use Rattle.h3_lines.specs.List.{itself}
use Rattle.h3_command.specs.Rows.{list_form}
use Rattle.h3_command.proofs.ListedCells.{numbered_ends, numbered_unanswered}
use Rattle.h3_command.proofs.listed.answer_whole_numbered.Goals as goal

pub returns-in_err-cells : goal.returns-in_err-cells
returns-in_err-cells g c =
    let p = err_from_is_err_and c.from_residual.result c.from_residual.ensures.1 in
    let input = source_use g.R.Source.left g.R.Source.has_failed c.args.input.now c.read_numbered.new.input in
    let out = sink_use g.W.Sink.taken g.W.Sink.has_failed c.args.out.now c.args.out.now in
    rw (p.1, p.2) (numbered_unanswered itself (list_form c.args.rows.now)
    (g.F.ListFunction.answer_of c.args.function) input _ out c.in_err-cells.ensures.refused (Keeps-refl _, refl))

pub returns : goal.returns
returns g c =
    let input = source_use g.R.Source.left g.R.Source.has_failed c.args.input.now c.read_numbered.new.input in
    let out = sink_use g.W.Sink.taken g.W.Sink.has_failed c.args.out.now c.write.new.out in
    numbered_ends itself (list_form c.args.rows.now)
    (g.F.ListFunction.answer_of c.args.function) _ input _ out c.in_ok-cells.ensures.cells
    (rw (← c.deref_mut.ensures.value) c.write.ensures)
