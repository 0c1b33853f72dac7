use Rattle.std.proofs.Common.{refl, inl, inr, rules, w32}
use Rattle.std.proofs.KnownBytes.{Keeps-refl}
use Rattle.std.proofs.lemmas.Int.{to_z-of_z}
use Rattle.std.proofs.lemmas.Result.{err_from_is_err_and}
use Rattle.h3_table.specs.BaseTable.{link_of}
use Rattle.h3_command.proofs.table_lists.grid_disks_distances_unsafe.Goals as goal

pub returns-in_err-table : goal.returns-in_err-table
returns-in_err-table g c =
    let p = err_from_is_err_and c.from_residual.result c.from_residual.ensures.1 in
    let (bytes, held, refused) = c.in_err-table.ensures.refused in
    rw (p.1, p.2) (bytes, held, inr (refused, (refl, refl), (Keeps-refl _, refl)))

pub returns : goal.returns
returns g c =
    let (bytes, held, gives) = c.in_ok-table.ensures.table in
    let ends =
    rw (to_z-of_z w32 c.args.k (search rules), c.between_parts-between.ensures) at c.answer_listed_pairs.ensures in
    (bytes, held, inl (link_of c.in_ok-table.table, gives, ends))
