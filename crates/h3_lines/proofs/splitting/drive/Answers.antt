use Rattle.std.proofs.Common.{[], ◌∷◌, inr, take}
use Rattle.std.proofs.lemmas.Result.{on_ok_weaker, IfErr-weaker}
use Rattle.h3_lines.specs.Pieces.{Piece, rows_of, without_last_nothing}
use Rattle.h3_lines.specs.SplittingLaws.{ended_refused, ended_taken, rows_end}
use Rattle.h3_lines.proofs.splitting.drive.Goals as goal

pub returns-clause-ok : goal.returns-clause-ok
returns-clause-ok g c =
    let q = c.args.quotes in
    let t = rw (← c.deref.ensures.value) at c.in_ok-held.ensures.ok in
    let left : Piece = (take c.in_ok-held.held c.deref.result.now, c.in_ok-held.inside) in
    on_ok_weaker c.take_last.result
    (λ last. ended_taken q g.J.JobContract.longest g.J.JobContract.taken (rows_of q) t (without_last_nothing (left ∷
    [])) (rows_end q t.bytes t.ended left t.pieces) g.met.J.JobContract.taken_then last)
    c.take_last.ensures.ok

pub returns-clause-err : goal.returns-clause-err
returns-clause-err g c =
    let q = c.args.quotes in
    let t = rw (← c.deref.ensures.value) at c.in_ok-held.ensures.ok in
    let left : Piece = (take c.in_ok-held.held c.deref.result.now, c.in_ok-held.inside) in
    IfErr-weaker c.take_last.result _ _
    (λ e refuses. inr (
      ended_refused q g.J.JobContract.longest g.J.JobContract.taken (rows_of q) t (without_last_nothing (left ∷ []))
          (rows_end q t.bytes t.ended left t.pieces) g.J.JobContract.refused g.J.JobContract.settled
          c.in_ok-held.ensures.settled refuses,
      c.in_ok-held.ensures.sound,
    ))
    c.take_last.ensures.err
