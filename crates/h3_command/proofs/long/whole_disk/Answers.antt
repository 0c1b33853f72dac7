use Rattle.std.proofs.Common.{w32, rules, of_z, to_z, ◌≡◌, ℤ, IsOk, refl, subst, sym, ◌∙◌}
use Rattle.std.specs.Prelude.{unsigned_abs}
use Rattle.std.proofs.lemmas.Int.{to_z-of_z}
use Rattle.std.proofs.lemmas.Iterator.Consumers.{YieldsList-from_first}
use Rattle.std.proofs.lemmas.Result.{err_from_is_err_and, IfOk-weaker}
use Rattle.h3_grid.specs.Disks.{disk_left}
use Rattle.h3_grid.specs.Refusals.{disk_refusal}
use Rattle.h3_grid.specs.Walks.{disk}
use Rattle.h3_table.specs.BaseTable.{link_of}
use Rattle.h3_lines.specs.Answer.{whole_items}
use Rattle.h3_command.proofs.WholeWalks.{walk_begun}
use Rattle.h3_command.proofs.long.whole_disk.Goals as goal

pub returns-in_err-walk_through-in-Ok-clause-err : goal.returns-in_err-walk_through-in-Ok-clause-err
returns-in_err-walk_through-in-Ok-clause-err c =
    let p = err_from_is_err_and c.from_residual.result c.from_residual.ensures.1 in
    let read : ℤ = to_z w32 (of_z w32 c.args.k) in
    let same : read ≡ c.args.k = to_z-of_z w32 c.args.k (search rules) in
    let left = disk_left c.in-Ok.disk in
    rw (p.1, p.2) (walk_begun (disk_refusal c.args.cell)
    (λ k. disk (link_of c.args.table.now) c.args.cell (unsigned_abs k)) c.args.k read left same
    c.in-Ok.ensures.refused c.in-Ok.ensures.items
    ∙ c.in_err-walk_through-in-Ok.ensures.err left (YieldsList-from_first (λ x. x) disk_left left refl).runs)

pub returns-clause-good : goal.returns-clause-good
returns-clause-good c =
    let left = disk_left c.in-Ok.disk in
    let ok : IsOk (whole_items left) =
    c.in_ok-walk_through-in-Ok.ensures.ok left (YieldsList-from_first (λ x. x) disk_left left refl).runs in
    IfOk-weaker c.new-2.result _ _
    (λ walk is. subst (λ l. IsOk (whole_items l)) (c.in-Ok.ensures.items ∙ sym is) ok) c.new-2.ensures.items
