use Rattle.std.proofs.Common.{subst, take}
use Rattle.std.proofs.lemmas.Result.{err_from_is_err_and}
use Rattle.h3_lines.specs.Answer.{cell_line}
use Rattle.h3_lines.specs.Answering.{FailsPush, Moves}
use Rattle.h3_lines.specs.EachLaws.{moves_put, push_more}
use Rattle.h3_lines.specs.Write.{sink_use}
use Rattle.h3_command.proofs.CountRows.{row_parts}
use Rattle.h3_command.proofs.by_lists.put_row.Goals as goal

pub returns-in_err-at-clause-err : goal.returns-in_err-at-clause-err
returns-in_err-at-clause-err g c =
    let p = err_from_is_err_and c.from_residual.result c.from_residual.ensures.1 in
    let held = take c.args.end c.args.block.now in
    let rest = cell_line c.args.cell in
    let out = sink_use g.W.Sink.taken g.W.Sink.has_failed c.args.out.now c.put_name.new.out in
    let fails =
    subst (λ l. FailsPush l out) (row_parts held c.args.value.now c.args.separator rest)
    (push_more _ rest out c.in_err-at.ensures.err) in
    rw p.1 fails

pub returns-clause-ok : goal.returns-clause-ok
returns-clause-ok g c =
    let held = take c.args.end c.args.block.now in
    let rest = cell_line c.args.cell in
    subst (λ l. Moves g.W.Sink.taken g.W.Sink.has_failed l
    (take c.put.result c.put.new.block) c.args.out.now c.put_name.new.out)
    (row_parts held c.args.value.now c.args.separator rest)
    (moves_put g.W.Sink.taken g.W.Sink.has_failed _ _ rest _ _ _ c.in_ok-at.ensures.ok c.put.ensures.line)
