-- Why a list stops at a line.
use Rattle.std.specs.Prelude.{ℕ}
use Rattle.h3_lines.specs.declared.run_error.AnswerError.TheVariants.{At}
use Rattle.h3_lines.specs.declared.run_error.RunError.{RunError}
use Rattle.h3_lines.specs.declared.run_error.RunError.TheVariants as refusal
use Rattle.h3_lines.specs.declared.stop.Stop.{Stop}
use Rattle.h3_lines.specs.declared.stop.Stop.TheVariants.{Fault, Refused}

-- stopped_at number stop: why the run ends of a list that stops at the line with this number; private contracts alone
-- cite it
abbrev pub stopped_at : ℕ → Stop → RunError
stopped_at number (Refused error) = refusal.Error (At number error)
stopped_at number (Fault fault) = refusal.Fault fault
