use Rattle.std.proofs.Common.{rules, refl}
use Rattle.std.proofs.KnownBytes.{Keeps-refl}
use Rattle.std.proofs.lemmas.Iterator.{YieldsList-from_slice}
use Rattle.std.proofs.lemmas.Iterator.Consumers.{YieldsList-from_copied}
use Rattle.h3_lines.specs.Answer.{cell_lines, written}
use Rattle.h3_command.proofs.Written.{answered_unless, answered_value}
use Rattle.h3_command.proofs.sets.write_compacted.Goals as goal

pub returns-in-Ok : goal.returns-in-Ok
returns-in-Ok g c =
    answered_value (λ cells. written (cell_lines cells)) _ _ c.copied.result.iter.rest.now _ _
    (search (rules, c.in-Ok.ensures.is)) c.in-Ok.ensures.refused
    (c.write_lines.ensures _ (YieldsList-from_copied (YieldsList-from_slice _ refl)).runs)

pub returns-in-Err : goal.returns-in-Err
returns-in-Err g c =
    answered_unless (λ cells. written (cell_lines cells)) _ _ _ _ c.in-Err.ensures.refused (Keeps-refl _, refl)
