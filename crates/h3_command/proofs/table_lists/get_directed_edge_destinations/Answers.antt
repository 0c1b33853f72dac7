use Rattle.std.proofs.Common.{refl, inl, inr}
use Rattle.std.proofs.KnownBytes.{Keeps-refl}
use Rattle.std.proofs.lemmas.Result.{err_from_is_err_and}
use Rattle.h3_table.specs.BaseTable.{link_of}
use Rattle.h3_command.proofs.table_lists.get_directed_edge_destinations.Goals as goal

pub returns-in_err-links : goal.returns-in_err-links
returns-in_err-links g c =
    let p = err_from_is_err_and c.from_residual.result c.from_residual.ensures.1 in
    let (bytes, held, refused) = c.in_err-links.ensures.refused in
    rw (p.1, p.2) (bytes, held, inr (refused, (refl, refl), (Keeps-refl _, refl)))

pub returns : goal.returns
returns g c =
    let (bytes, held, gives) = c.in_ok-links.ensures.table in
    (bytes, held, inl (link_of c.in_ok-links.links, gives, c.answer_listed.ensures))
