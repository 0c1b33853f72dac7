use Rattle.std.proofs.Common.{◌<◌, ◌++◌, ◌∷◌, [], length, length-append, take, arith}
use Rattle.std.proofs.lemmas.Result.{err_from_is_err_and}
use Rattle.h3_rows.specs.Line.{line_of}
use Rattle.h3_rows.proofs.Parts.{written_moves, written_breaks}
use Rattle.h3_rows.proofs.put.write_empty.Goals as goal

pub returns-in_err-write_all-clause-err : goal.returns-in_err-write_all-clause-err
returns-in_err-write_all-clause-err g c =
    let p = err_from_is_err_and c.from_residual-in_err-write_all.result c.from_residual-in_err-write_all.ensures.1 in
    let held = take c.args.end c.args.block.now in
    let line = line_of c.args.row in
    let some : 0 < length (held ++ (line ++ 10 ∷ [])) =
    omega (arith, length-append held (line ++ 10 ∷ []), length-append line (10 ∷ [])) in
    rw (p.1, p.2) (written_breaks g.W.Sink.taken g.W.Sink.has_failed _ _ _ _ _ some c.in_ok-last.ensures.ok
    c.in_err-write_all.ensures.part c.in_err-write_all.ensures.err)

pub returns-clause-ok : goal.returns-clause-ok
returns-clause-ok g c =
    written_moves g.W.Sink.taken g.W.Sink.has_failed _ _ _ _ _ c.in_ok-last.ensures.ok c.in_ok-write_all.ensures.written
    c.in_ok-write_all.ensures.ok
