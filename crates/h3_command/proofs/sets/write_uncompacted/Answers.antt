use Rattle.std.proofs.Common.{w32, rules, of_z, to_z, ◌≡◌, ◌∙◌, ℤ, ap, subst, refl}
use Rattle.std.specs.Prelude.{unsigned_abs}
use Rattle.std.proofs.KnownBytes.{Keeps-refl}
use Rattle.std.proofs.lemmas.Int.{to_z-of_z}
use Rattle.h3_set.specs.Uncompaction.{uncompacted, uncompact_refusal}
use Rattle.h3_lines.specs.Answer.{cell_lines, written}
use Rattle.h3_lines.specs.Write.{Writes, sink_use}
use Rattle.h3_command.proofs.SiblingGroups.{uncompacted_lines}
use Rattle.h3_command.proofs.Written.{answered_unless, answered_value}
use Rattle.h3_command.proofs.sets.write_uncompacted.Goals as goal

pub returns-in-Ok : goal.returns-in-Ok
returns-in-Ok g c =
    let cells = c.args.cells.now in
    let read : ℤ = to_z w32 (of_z w32 c.args.res) in
    let same : read ≡ c.args.res = to_z-of_z w32 c.args.res (search rules) in
    let r = c.in-Ok.r in
    let here : uncompacted cells r ≡ uncompacted cells (unsigned_abs c.args.res) =
    ap (λ (z : ℤ). uncompacted cells (unsigned_abs z)) (c.in-Ok.ensures.is.0 ∙ same) in
    let out = sink_use g.W.Sink.taken g.W.Sink.has_failed c.args.out.now c.write_cells_lines.new.out in
    answered_value (λ cells. written (cell_lines cells)) _ _ (uncompacted cells r) _ _ here
    (c.in-Ok.ensures.refused ∙ ap (uncompact_refusal cells) same)
    (subst (λ l. Writes (written l) c.write_cells_lines.result out)
    (uncompacted_lines r cells) c.write_cells_lines.ensures)

pub returns-in-Err : goal.returns-in-Err
returns-in-Err g c =
    let cells = c.args.cells.now in
    answered_unless (λ cells. written (cell_lines cells)) _ _ _ _
    (c.in-Err.ensures.refused ∙ ap (uncompact_refusal cells) (to_z-of_z w32 c.args.res (search rules)))
    (Keeps-refl _, refl)
