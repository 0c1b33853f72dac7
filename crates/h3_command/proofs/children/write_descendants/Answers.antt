use Rattle.std.proofs.Common.{◌∙◌, ap, refl, sym}
use Rattle.std.proofs.lemmas.Iterator.Consumers.{YieldsList-from_first}
use Rattle.h3_lines.specs.Answer.{cell_lines}
use Rattle.h3_tree.specs.SiblingGroups.{parents_left}
use Rattle.h3_command.proofs.SiblingGroups.{group_lines, own_line}
use Rattle.h3_command.proofs.children.write_descendants.Goals as goal

pub returns-then-r-resolution : goal.returns-then-r-resolution
returns-then-r-resolution g c =
    rw (own_line c.args.cell c.args.r (c.if-r-resolution.true ∙ c.resolution.ensures.number)) c.write_result.ensures

pub returns-else-r-resolution : goal.returns-else-r-resolution
returns-else-r-resolution g c =
    let parents = parents_left c.sibling_groups_at.result in
    rw (ap cell_lines (sym c.sibling_groups_at.ensures.list) ∙ group_lines parents)
    (c.write_lines.ensures parents (YieldsList-from_first (λ x. x) parents_left parents refl).runs)
