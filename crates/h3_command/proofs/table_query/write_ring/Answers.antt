use Rattle.std.proofs.Common.{w32, rules, of_z, to_z, ◌≡◌, ℤ, refl}
use Rattle.std.specs.Prelude.{unsigned_abs}
use Rattle.std.proofs.KnownBytes.{Keeps-refl}
use Rattle.std.proofs.lemmas.Int.{to_z-of_z}
use Rattle.h3_grid.specs.Refusals.{ring_refusal}
use Rattle.h3_grid.specs.Walks.{ring}
use Rattle.h3_table.specs.BaseTable.{link_of}
use Rattle.h3_grid.specs.Rings.{ring_left}
use Rattle.h3_lines.specs.Answer.{cell_line}
use Rattle.h3_command.proofs.Written.{walk_unbegun, walk_written}
use Rattle.h3_command.proofs.table_query.write_ring.Goals as goal

pub returns-in-Ok : goal.returns-in-Ok
returns-in-Ok g c =
    let read : ℤ = to_z w32 (of_z w32 c.args.k) in
    let same : read ≡ c.args.k = to_z-of_z w32 c.args.k (search rules) in
    walk_written cell_line ring_left (ring_refusal c.args.cell)
    (λ k. ring (link_of c.args.table.now) c.args.cell (unsigned_abs k)) c.args.k read _ _ same
    c.in-Ok.ensures.refused c.in-Ok.ensures.items c.write_walk.ensures

pub returns-in-Err : goal.returns-in-Err
returns-in-Err g c =
    let read : ℤ = to_z w32 (of_z w32 c.args.k) in
    let same : read ≡ c.args.k = to_z-of_z w32 c.args.k (search rules) in
    walk_unbegun cell_line (ring_refusal c.args.cell) _ c.args.k read _ _ same c.in-Err.ensures.refused
    (Keeps-refl _, refl)
