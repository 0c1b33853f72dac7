use Rattle.std.proofs.Common.{◌∙◌, sym, take}
use Rattle.std.proofs.lemmas.Result.{err_from_is_err_and}
use Rattle.h3_lines.specs.Write.{sink_use}
use Rattle.h3_rows.specs.Line.{line_of}
use Rattle.h3_rows.specs.Answering.{form_of_job}
use Rattle.h3_rows.proofs.Naming.{free_columns_same}
use Rattle.h3_rows.proofs.Returns.{body_of_row}
use Rattle.h3_rows.proofs.Steps.{breaks_header, puts_header, refused_header}
use Rattle.h3_rows.proofs.put.put_header.Goals as goal

pub returns-in_err-last-clause-err : goal.returns-in_err-last-clause-err
returns-in_err-last-clause-err g c =
    let p = err_from_is_err_and c.from_residual.result c.from_residual.ensures.1 in
    let held = take c.args.end c.args.block.now in
    let form = form_of_job g.F.RowFunction.counts_quotes c.args.job.now in
    let body = body_of_row c.args.row.body.now c.args.row.returns c.args.row.bare in
    let chosen = rw (c.read_of-read.ensures, ← body) at c.in-Ok.ensures in
    rw (p.1, p.2) (breaks_header form c.args.state (line_of c.args.row) held _ c.in-Ok.columns _
    (sink_use g.W.Sink.taken g.W.Sink.has_failed c.args.out.now c.put_named.new.out) c.requires.awaited
    (sym
    (chosen
    ∙ free_columns_same (g.F.RowFunction.counts_quotes c.args.job.now.function.now)
    c.args.job.now.options.now c.args.job.now.name.now c.args.job.now.is_pair _))
    c.in_err-last.ensures.err)

pub returns-clause-ok : goal.returns-clause-ok
returns-clause-ok g c =
    let held = take c.args.end c.args.block.now in
    let form = form_of_job g.F.RowFunction.counts_quotes c.args.job.now in
    let body = body_of_row c.args.row.body.now c.args.row.returns c.args.row.bare in
    let chosen = rw (c.read_of-read.ensures, ← body) at c.in-Ok.ensures in
    let after = c.headed.ensures in
    puts_header g.W.Sink.taken g.W.Sink.has_failed form c.args.state c.headed.result (line_of c.args.row) held _ _
    c.in-Ok.columns _ _ c.requires.awaited
    (sym
    (chosen
    ∙ free_columns_same (g.F.RowFunction.counts_quotes c.args.job.now.function.now)
    c.args.job.now.options.now c.args.job.now.name.now c.args.job.now.is_pair _))
    after.number after.columns after.kept c.in_ok-last.ensures.ok

pub returns-in-Err-clause-err : goal.returns-in-Err-clause-err
returns-in-Err-clause-err g c next =
    let body = body_of_row c.args.row.body.now c.args.row.returns c.args.row.bare in
    let chosen = rw (c.read_of-read.ensures, ← body) at c.in-Err.ensures in
    refused_header (form_of_job g.F.RowFunction.counts_quotes c.args.job.now) c.args.state (line_of c.args.row)
    (take c.args.end c.args.block.now) _ c.in-Err.error g.W.Sink.taken g.W.Sink.has_failed c.args.out.now
    c.requires.awaited
    (sym
    (chosen
    ∙ free_columns_same (g.F.RowFunction.counts_quotes c.args.job.now.function.now)
    c.args.job.now.options.now c.args.job.now.name.now c.args.job.now.is_pair _))
    next
