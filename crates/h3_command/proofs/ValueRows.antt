-- Rows of values, and errors in place of lists.
use Rattle.std.proofs.Common.{[], Result, Ok, Err, IfOk, OnErr, refl}
use Rattle.h3_lines.specs.Write.{IsLeft, SinkUse, Writes}
use Rattle.h3_lines.specs.declared.run_error.AnswerError.{AnswerError}
use Rattle.h3_lines.specs.declared.run_error.RunError.TheVariants.{Error}
use Rattle.h3_command.proofs.Written.{nothing}

-- what holds for each list of a kind, of one of them
pub given_ok : {V E L : Type 0} (kind : L → Type 0) (holds : L → V → Type 0) (r : Result V E) (list : L)
    → IfOk r (λ v. (l : L) → kind l → holds l v) → kind list → IfOk r (holds list)
given_ok kind holds (Ok v) list each is = each list is
given_ok kind holds (Err e) list each is = tt

pub given_err : {V E L : Type 0} (kind : L → Type 0) (holds : L → Type 0) (r : Result V E) (list : L)
    → OnErr r ((l : L) → kind l → holds l) → kind list → OnErr r (holds list)
given_err kind holds (Ok v) list each is = tt
given_err kind holds (Err e) list each is = each list is

-- an error alone is written by nothing
pub error_written : (e : AnswerError) (out : SinkUse) → IsLeft out
    → Writes (record { output = []; ending = Err e }) (Err (Error e)) out
unfolding Writes
error_written e out left = (refl, (nothing _ _ left.0, left.1))
