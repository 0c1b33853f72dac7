use Rattle.std.proofs.Common.{w32, rules, of_z, to_z, ◌≡◌, ℤ, Ok, ap, sym, ◌∙◌}
use Rattle.std.proofs.lemmas.Int.{to_z-of_z}
use Rattle.std.proofs.lemmas.Iterator.Consumers.{YieldsList-from_first}
use Rattle.std.proofs.lemmas.Iterator.{YieldsList}
use Rattle.std.specs.Iterator.{YieldsFirst}
use Rattle.h3_index.specs.Cell.{resolution}
use Rattle.h3_index.specs.Descendants.{descendants}
use Rattle.h3_tree.specs.Refusals.{descent_refusal}
use Rattle.h3_lines.specs.Answer.{cell_lines, printed, written}
use Rattle.h3_functions.specs.Hierarchy.{cell_to_children}
use Rattle.h3_functions.specs.Inspection.{for_value}
use Rattle.h3_command.specs.Required.{cell_given, index_given}
use Rattle.h3_command.specs.Long.{child_lines_left, items_below}
use Rattle.h3_command.proofs.SiblingGroups.{item_lines, of_cell}
use Rattle.h3_command.proofs.WholeWalks.{unless_fits}
use Rattle.h3_command.proofs.long.ChildrenOfLinesFunction.lines.Goals as goal

pub returns-clause-ok : goal.returns-clause-ok
returns-clause-ok c =
    let res = c.args.self.now.res in
    let read : ℤ = to_z w32 (of_z w32 res) in
    let same : read ≡ res = to_z-of_z w32 res (search rules) in
    let cell = c.in_ok-cell.cell in
    let r = c.in_ok-r.r in
    let found : cell_given c.args.index ≡ Ok cell = sym c.cell_given.ensures ∙ c.in_ok-cell.was in
    let whole : for_value (λ h. cell_to_children h res) (index_given c.args.index) ≡ Ok (descendants cell r) =
    of_cell c.args.index res cell found ∙ unless_fits (descent_refusal (resolution cell)) (λ n. descendants cell n) res
    read r same c.in_ok-r.ensures.refused c.in_ok-r.ensures.is.0 in
    let all = items_below r cell in
    let gives : YieldsList (YieldsFirst child_lines_left) (λ x. x) c.lines_below.result all =
    YieldsList-from_first (λ x. x) child_lines_left all c.lines_below.ensures in
    record {
      all = all;
      yields = gives.runs;
      is =
          ap (printed cell_lines) whole
          ∙ ap written (sym (item_lines r cell c.in_ok-r.ensures.is.1 c.descendants_are_children.ensures));
    }
