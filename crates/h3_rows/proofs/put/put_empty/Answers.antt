use Rattle.std.proofs.Common.{◌≡◌, ◌<◌, ◌+◌, ◌++◌, ◌∷◌, [], refl, length, length-take-le, take, arith}
use Rattle.std.proofs.lemmas.Result.{err_from_is_err_and}
use Rattle.h3_lines.specs.Write.{sink_use}
use Rattle.h3_rows.specs.Answering.{state_of}
use Rattle.h3_rows.specs.Line.{line_of}
use Rattle.h3_rows.specs.RowsAnswer.{empty_step, goes_on}
use Rattle.h3_rows.proofs.Returns.{row_length}
use Rattle.h3_rows.proofs.Steps.{breaks_empty, breaks_step, holds_empty, puts, writes_empty}
use Rattle.h3_rows.proofs.put.put_empty.Goals as goal

pub returns-then-size-end-clause-ok : goal.returns-then-size-end-clause-ok
returns-then-size-end-clause-ok g c =
    let r = c.args.row in
    let held = take c.args.end c.args.block.now in
    let size : length held ≡ c.args.end =
    length-take-le c.args.end c.args.block.now (omega (arith, c.told-block, c.requires.within)) in
    let long = row_length r.body.now r.returns in
    holds_empty c.args.state c.passed.result c.in-None.is (line_of r) held _ c.passed.ensures.number
    c.passed.ensures.columns c.passed.ensures.kept g.W.Sink.taken g.W.Sink.has_failed _ (omega (
      arith,
      size,
      long,
      c.if-size-end.true,
    ))
    c.hold_line-last.ensures.held

pub returns-in_err-write_empty-clause-err : goal.returns-in_err-write_empty-clause-err
returns-in_err-write_empty-clause-err g c =
    let p = err_from_is_err_and c.from_residual.result c.from_residual.ensures.1 in
    let r = c.args.row in
    let held = take c.args.end c.args.block.now in
    let size : length held ≡ c.args.end =
    length-take-le c.args.end c.args.block.now (omega (arith, c.told-block, c.requires.within)) in
    let long = row_length r.body.now r.returns in
    let many : 32768 < length held + length (line_of r) + 1 = omega (arith, size, long, c.if-size-end.false) in
    let sink = sink_use g.W.Sink.taken g.W.Sink.has_failed c.args.out.now c.write_empty.new.out in
    rw (p.1, p.2) (breaks_empty c.args.state (line_of r) held _ sink c.in-None.is many c.in_err-write_empty.ensures.err)

pub returns-in-None-clause-ok : goal.returns-in-None-clause-ok
returns-in-None-clause-ok g c =
    let r = c.args.row in
    let held = take c.args.end c.args.block.now in
    let size : length held ≡ c.args.end =
    length-take-le c.args.end c.args.block.now (omega (arith, c.told-block, c.requires.within)) in
    let long = row_length r.body.now r.returns in
    let many : 32768 < length held + length (line_of r) + 1 = omega (arith, size, long, c.if-size-end.false) in
    writes_empty c.args.state c.passed-in-None.result c.in-None.is (line_of r) held [] c.passed-in-None.ensures.number
    c.passed-in-None.ensures.columns c.passed-in-None.ensures.kept g.W.Sink.taken g.W.Sink.has_failed _ _ many refl
    c.in_ok-write_empty.ensures.ok

pub returns-in_err-last-clause-err : goal.returns-in_err-last-clause-err
returns-in_err-last-clause-err g c =
    let p = err_from_is_err_and c.from_residual-in_err-last.result c.from_residual-in_err-last.ensures.1 in
    let s = c.args.state in
    let r = c.args.row in
    let held = take c.args.end c.args.block.now in
    let sink = sink_use g.W.Sink.taken g.W.Sink.has_failed c.args.out.now c.put_line.new.out in
    let step = empty_step (state_of s held) (line_of r) s.columns in
    let is : step ≡ goes_on (state_of s held) (line_of r) (line_of r ++ 10 ∷ []) = rw c.in_default.is refl in
    rw (p.1, p.2) (breaks_step s _ (line_of r) (line_of r ++ 10 ∷ []) held step _ sink c.in_default.is is
    c.in_err-last.ensures.err)

pub returns-clause-ok : goal.returns-clause-ok
returns-clause-ok g c =
    let s = c.args.state in
    let r = c.args.row in
    let held = take c.args.end c.args.block.now in
    let step = empty_step (state_of s held) (line_of r) s.columns in
    let is : step ≡ goes_on (state_of s held) (line_of r) (line_of r ++ 10 ∷ []) = rw c.in_default.is refl in
    puts s c.passed-2.result _ c.in_default.is (line_of r) held g.W.Sink.taken g.W.Sink.has_failed step
    (line_of r ++ 10 ∷ []) _ _ _ c.passed-2.ensures.number c.passed-2.ensures.columns c.passed-2.ensures.kept is
    c.in_ok-last.ensures.ok
