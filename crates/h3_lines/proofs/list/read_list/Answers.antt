use Rattle.std.proofs.Common.{refl}
use Rattle.std.proofs.lemmas.Result.{err_from_is_err_and}
use Rattle.h3_lines.specs.declared.run_error.Fault.TheVariants.{Memory}
use Rattle.h3_lines.specs.declared.run_error.RunError.TheVariants.{Fault}
use Rattle.h3_lines.specs.List.{itself}
use Rattle.h3_lines.specs.Reads.{source_use}
use Rattle.h3_lines.proofs.Listed.{items_read, list_unread, refused_unnumbered}
use Rattle.h3_lines.proofs.list.read_list.Goals as goal

pub returns-in-Ok-clause-cells : goal.returns-in-Ok-clause-cells
returns-in-Ok-clause-cells g c =
    let input = source_use g.R.Source.left g.R.Source.has_failed c.args.input.now c.take_list.new.input in
    let (cells, told, is) = c.in-Ok.ensures.taken in
    items_read itself _ _ cells c.args.limit _ input c.new.ensures.items is told

pub returns-clause-refused : goal.returns-clause-refused
returns-clause-refused g c =
    rw c.without_line.ensures (refused_unnumbered _ _ _ _ c.in-Err.refusal c.in-Err.ensures.refused)

pub returns-in_err-page-clause-refused : goal.returns-in_err-page-clause-refused
returns-in_err-page-clause-refused g c =
    let p = err_from_is_err_and c.from_residual.result c.from_residual.ensures.1 in
    let input = source_use g.R.Source.left g.R.Source.has_failed c.args.input.now c.args.input.now in
    rw (p.1, p.2, c.in_err-page.ensures.err) (refused_unnumbered itself c.args.limit c.args.size input (Fault Memory)
    (list_unread itself c.args.limit c.args.size input refl refl))
