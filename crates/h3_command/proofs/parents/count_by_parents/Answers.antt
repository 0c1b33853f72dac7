use Rattle.std.proofs.Common.{◌≡◌, ◌∙◌, ◌++◌, ap, inl, refl, rules, subst, w32}
use Rattle.std.proofs.KnownBytes.{Keeps-refl}
use Rattle.std.proofs.lemmas.Int.{to_z-of_z}
use Rattle.std.proofs.lemmas.Result.{err_from_is_err_and}
use Rattle.h3_lines.specs.Reads.{source_use}
use Rattle.h3_lines.specs.Write.{Writes, sink_use}
use Rattle.h3_command.specs.Parents.{parent_at, parent_counts_answer}
use Rattle.h3_command.specs.Rows.{list_form_as}
use Rattle.h3_command.proofs.ListedCells.{numbered_ends, numbered_unanswered}
use Rattle.h3_command.proofs.parents.count_by_parents.Goals as goal

pub returns-in_err-cells : goal.returns-in_err-cells
returns-in_err-cells g c =
    let p = err_from_is_err_and c.from_residual.result c.from_residual.ensures.1 in
    let input = source_use g.R.Source.left g.R.Source.has_failed c.args.input.now c.take_listed_as.new.input in
    let out = sink_use g.W.Sink.taken g.W.Sink.has_failed c.args.out.now c.args.out.now in
    let says = parent_at c.args.res in
    let refused = rw (to_z-of_z w32 c.args.res (search rules)) at c.in_err-cells.ensures.refused in
    rw (p.1, p.2) (numbered_unanswered says (list_form_as says c.args.rows.now) (parent_counts_answer c.args.rows.now)
    input _ out refused (Keeps-refl _, refl))

pub returns : goal.returns
returns g c =
    let (cells, gives, is) = rw (to_z-of_z w32 c.args.res (search rules)) at c.in_ok-cells.ensures.taken in
    let input = source_use g.R.Source.left g.R.Source.has_failed c.args.input.now c.take_listed_as.new.input in
    let out = sink_use g.W.Sink.taken g.W.Sink.has_failed c.args.out.now c.write_parent_counts.new.out in
    let says = parent_at c.args.res in
    let same : c.in_ok-cells.cells.items ≡ cells = is ∙ ap (λ l. l ++ cells) c.new.ensures.items in
    let wrote : Writes (parent_counts_answer c.args.rows.now c.in_ok-cells.cells.items) c.write_parent_counts.result
    out =
    rw (← c.between_parts.ensures, ← c.cell_title.ensures, ← c.deref_mut.ensures.value) c.write_parent_counts.ensures in
    numbered_ends says (list_form_as says c.args.rows.now) (parent_counts_answer c.args.rows.now) cells input _ out
    gives
    (inl (subst (λ l. Writes (parent_counts_answer c.args.rows.now l) c.write_parent_counts.result out) same wrote))
