use Rattle.std.proofs.Common.{w32, rules, of_z, to_z, ◌≡◌, ℤ, Ok, refl, subst, sym, ◌∙◌}
use Rattle.std.proofs.lemmas.Int.{to_z-of_z}
use Rattle.std.proofs.lemmas.Iterator.Consumers.{YieldsList-from_first}
use Rattle.h3_grid.specs.Rings.{ring_left}
use Rattle.h3_table.specs.BaseTable.{link_of}
use Rattle.h3_lines.specs.Answer.{cell_lines, whole_items}
use Rattle.h3_functions.specs.Walks.{grid_ring_unsafe}
use Rattle.h3_command.specs.Required.{cell_given}
use Rattle.h3_command.specs.LongAnswers.{whole_walk}
use Rattle.h3_command.specs.Long.{good, ring_lines_left}
use Rattle.h3_command.proofs.WholeWalks.{good_items, printed_items}
use Rattle.h3_command.proofs.long.RingOfLinesFunction.lines.Goals as goal

pub returns-in-Ok-clause-ok : goal.returns-in-Ok-clause-ok
returns-in-Ok-clause-ok c =
    let link = link_of c.args.self.now.table.now in
    let k = c.args.self.now.k in
    let read : ℤ = to_z w32 (of_z w32 k) in
    let same : read ≡ k = to_z-of_z w32 k (search rules) in
    let cell = c.in_ok-cell.cell in
    let found : cell_given c.args.index ≡ Ok cell = sym c.cell_given.ensures ∙ c.in_ok-cell.was in
    let all = good (ring_left c.in-Ok.walk) in
    let items : whole_walk (grid_ring_unsafe link cell k) ≡ Ok all =
    (subst (λ n. whole_walk (grid_ring_unsafe link cell n)
    ≡ whole_items (ring_left c.in-Ok.walk)) same c.in-Ok.ensures.ok)
    ∙ good_items (ring_left c.in-Ok.walk) c.in-Ok.ensures.good in
    record {
      all = all;
      yields = (YieldsList-from_first (λ x. x) ring_lines_left all refl).runs;
      is =
          printed_items cell_lines (λ c. whole_walk (grid_ring_unsafe link c k))
          (cell_given c.args.index) cell all found items;
    }
