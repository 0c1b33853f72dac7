use Rattle.std.proofs.Common.{w32, rules, of_z, to_z, ◌≡◌, ℤ, Ok, map, refl, ap, subst, sym, ◌∙◌}
use Rattle.std.proofs.lemmas.Int.{to_z-of_z}
use Rattle.std.specs.List.{flat_map}
use Rattle.std.proofs.lemmas.List.Folds.{flat_map-map}
use Rattle.std.proofs.lemmas.Iterator.Consumers.{YieldsList-from_first}
use Rattle.h3_grid.specs.Disks.{disk_left}
use Rattle.h3_table.specs.BaseTable.{link_of}
use Rattle.h3_lines.specs.Answer.{ring_line_by, whole_items, written}
use Rattle.h3_functions.specs.Walks.{grid_disk_distances_unsafe}
use Rattle.h3_command.specs.Required.{cell_given}
use Rattle.h3_command.specs.LongAnswers.{whole_walk}
use Rattle.h3_command.specs.Long.{distance_lines_left, good, ring_cell}
use Rattle.h3_command.proofs.WholeWalks.{good_items, printed_items}
use Rattle.h3_command.proofs.long.DiskDistancesOfLinesFunction.lines.Goals as goal

pub returns-in-Ok-clause-ok : goal.returns-in-Ok-clause-ok
returns-in-Ok-clause-ok c =
    let link = link_of c.args.self.now.table.now in
    let k = c.args.self.now.k in
    let read : ℤ = to_z w32 (of_z w32 k) in
    let same : read ≡ k = to_z-of_z w32 k (search rules) in
    let between = c.args.self.now.between in
    let cell = c.in_ok-cell.cell in
    let found : cell_given c.args.index ≡ Ok cell = sym c.cell_given.ensures ∙ c.in_ok-cell.was in
    let items = good (disk_left c.in-Ok.walk) in
    let whole : whole_walk (grid_disk_distances_unsafe link cell k) ≡ Ok items =
    (subst (λ n. whole_walk (grid_disk_distances_unsafe link cell n)
    ≡ whole_items (disk_left c.in-Ok.walk)) same c.in-Ok.ensures.ok)
    ∙ good_items (disk_left c.in-Ok.walk) c.in-Ok.ensures.good in
    record {
      all = map (ring_cell between) items;
      yields = (YieldsList-from_first (λ x. x) distance_lines_left (map (ring_cell between) items) refl).runs;
      is =
          printed_items (flat_map (ring_line_by between)) (λ c. whole_walk (grid_disk_distances_unsafe link c k))
          (cell_given c.args.index) cell items found whole
          ∙ ap written (sym (flat_map-map (λ v. ring_line_by v.between (v.cell, v.ring)) (ring_cell between) items));
    }
