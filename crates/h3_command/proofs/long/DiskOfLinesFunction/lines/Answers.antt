use Rattle.std.proofs.Common.{w32, rules, of_z, to_z, ◌≡◌, ℤ, Ok, Err, map, refl, subst, sym, ◌∙◌}
use Rattle.std.specs.Prelude.{unsigned_abs}
use Rattle.std.proofs.lemmas.Int.{to_z-of_z}
use Rattle.std.proofs.lemmas.Iterator.Consumers.{YieldsList-from_first}
use Rattle.h3_grid.specs.Disks.{disk_left}
use Rattle.h3_grid.specs.Refusals.{disk_refusal}
use Rattle.h3_grid.specs.Walks.{disk}
use Rattle.h3_table.specs.BaseTable.{link_of}
use Rattle.h3_lines.specs.Answer.{cell_lines, whole_items}
use Rattle.h3_functions.specs.Walks.{grid_disk_distances_unsafe, grid_disk_unsafe}
use Rattle.h3_command.specs.Required.{cell_given}
use Rattle.h3_command.specs.LongAnswers.{whole_walk}
use Rattle.h3_command.specs.Long.{disk_lines_left, good}
use Rattle.h3_command.proofs.WholeWalks.{dropped_good, dropped_refused, printed_items, printed_refused}
use Rattle.h3_command.proofs.long.DiskOfLinesFunction.lines.Goals as goal

pub returns-in-Ok-clause-ok : goal.returns-in-Ok-clause-ok
returns-in-Ok-clause-ok c =
    let link = link_of c.args.self.now.table.now in
    let k = c.args.self.now.k in
    let read : ℤ = to_z w32 (of_z w32 k) in
    let same : read ≡ k = to_z-of_z w32 k (search rules) in
    let cell = c.in_ok-cell.cell in
    let found : cell_given c.args.index ≡ Ok cell = sym c.cell_given.ensures ∙ c.in_ok-cell.was in
    let all = map (λ item. item.0) (good (disk_left c.in-Ok.walk)) in
    let items : whole_walk (grid_disk_unsafe link cell k) ≡ Ok all =
    dropped_good (disk_refusal cell k) (disk link cell (unsigned_abs k)) (disk_left c.in-Ok.walk)
    (subst (λ n. whole_walk (grid_disk_distances_unsafe link cell n) ≡ whole_items (disk_left c.in-Ok.walk)) same
    c.in-Ok.ensures.ok) c.in-Ok.ensures.good in
    record {
      all = all;
      yields = (YieldsList-from_first (λ x. x) disk_lines_left all refl).runs;
      is =
          printed_items cell_lines (λ c. whole_walk (grid_disk_unsafe link c k))
          (cell_given c.args.index) cell all found items;
    }

pub returns-in-Err-clause-err : goal.returns-in-Err-clause-err
returns-in-Err-clause-err c =
    let link = link_of c.args.self.now.table.now in
    let k = c.args.self.now.k in
    let read : ℤ = to_z w32 (of_z w32 k) in
    let same : read ≡ k = to_z-of_z w32 k (search rules) in
    let cell = c.in_ok-cell.cell in
    let found : cell_given c.args.index ≡ Ok cell = sym c.cell_given.ensures ∙ c.in_ok-cell.was in
    printed_refused cell_lines (λ c. whole_walk (grid_disk_unsafe link
    c k)) (cell_given c.args.index) cell c.in-Err.error found (dropped_refused (disk_refusal cell k) (disk link cell
    (unsigned_abs k)) c.in-Err.error (subst (λ n. whole_walk (grid_disk_distances_unsafe link cell n) ≡ Err
    c.in-Err.error) same c.in-Err.ensures.err))
