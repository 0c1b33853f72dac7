-- An error without output, written.
use Rattle.std.proofs.Common.{ℕ, Bool, List, [], Option, Err, refl}
use Rattle.std.proofs.KnownBytes.{Appends-nil}
use Rattle.h3_lines.specs.Write.{Writes, sink_use}
use Rattle.h3_lines.specs.declared.run_error.AnswerError.{AnswerError}
use Rattle.h3_lines.specs.declared.run_error.RunError.TheVariants.{Error}

pub nothing_refused : {S : Type 0} (taken : S → Option (List ℕ)) (failed : S → Bool) (s : S) (e : AnswerError)
    → Writes (record { output = []; ending = Err e }) (Err (Error e)) (sink_use taken failed s s)
unfolding Writes
nothing_refused taken failed s e = (refl, (Appends-nil (taken s), refl))
