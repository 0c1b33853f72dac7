use Rattle.std.proofs.Common.{w32, rules, ◌≡◌, ◌∙◌, Ok, Err, ap, refl, sym}
use Rattle.std.proofs.KnownBytes.{Keeps-refl}
use Rattle.std.proofs.lemmas.Int.{to_z-of_z}
use Rattle.std.proofs.lemmas.Result.{err_from_is_err_and}
use Rattle.h3_index.specs.Cell.{resolution}
use Rattle.h3_tree.specs.Refusals.{descent_refusal}
use Rattle.h3_lines.specs.Answer.{cell_lines, written}
use Rattle.h3_command.specs.Required.{cell_given}
use Rattle.h3_command.proofs.SiblingGroups.{no_cell, of_cell}
use Rattle.h3_command.proofs.Written.{answered_refused, answered_unless}
use Rattle.h3_command.proofs.children.cell_to_children.Goals as goal

pub returns-in_err-cell : goal.returns-in_err-cell
returns-in_err-cell g c =
    let p = err_from_is_err_and c.from_residual.result c.from_residual.ensures.1 in
    let found : cell_given c.args.index ≡ Err c.in_err-cell.field-0.0 = sym c.cell_given.ensures ∙ c.in_err-cell.was in
    rw (p.1, p.2) (answered_refused (λ cells. written (cell_lines cells)) _ _ _
    (no_cell c.args.index c.args.res _ found) (Keeps-refl _, refl))

pub returns-in_err-r : goal.returns-in_err-r
returns-in_err-r g c =
    let p = err_from_is_err_and c.from_residual-in_err-r.result c.from_residual-in_err-r.ensures.1 in
    let cell = c.in_ok-cell.cell in
    let found : cell_given c.args.index ≡ Ok cell = sym c.cell_given.ensures ∙ c.in_ok-cell.was in
    let same = to_z-of_z w32 c.args.res (search rules) in
    rw (p.1, p.2, of_cell c.args.index c.args.res cell found)
    (answered_unless (λ cells. written (cell_lines cells)) _ _ _ _
    (c.in_err-r.ensures.refused ∙ ap (descent_refusal (resolution cell)) same) (Keeps-refl _, refl))
