use Rattle.std.proofs.Common.{refl}
use Rattle.std.proofs.KnownBytes.{Appends-nil}
use Rattle.std.proofs.lemmas.Result.{err_from_is_err_and}
use Rattle.h3_lines.specs.Write.{Writes}
use Rattle.h3_lines.proofs.Lengths.{empty_from_test, some_from_test}
use Rattle.h3_lines.proofs.Written.{fault_before, then_refused}
use Rattle.h3_lines.proofs.write.write_refused.Goals as goal

pub returns-in_err-write_answer : goal.returns-in_err-write_answer
returns-in_err-write_answer g c =
    let p = err_from_is_err_and c.from_residual.result c.from_residual.ensures.1 in
    rw (p.1, p.2) (fault_before _ _ _ _
    (some_from_test _ _ c.is_empty.ensures c.if-not-is_empty.true) c.in_err-write_answer.ensures)

pub returns-in_ok-write_answer : goal.returns-in_ok-write_answer
returns-in_ok-write_answer g c = then_refused _ _ _ _ c.in_ok-write_answer.ensures

pub returns-else-not-is_empty : goal.returns-else-not-is_empty
unfolding Writes
returns-else-not-is_empty g c =
    rw (empty_from_test _ _ c.is_empty.ensures c.if-not-is_empty.false) (refl, (Appends-nil _, refl))
