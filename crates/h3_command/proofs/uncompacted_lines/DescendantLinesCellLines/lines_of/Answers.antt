use Rattle.std.proofs.Common.{ap, sym}
use Rattle.std.proofs.lemmas.Iterator.Consumers.{YieldsList-from_first}
use Rattle.h3_lines.specs.Answer.{written}
use Rattle.h3_command.specs.Long.{child_lines_left, items_below}
use Rattle.h3_command.proofs.SiblingGroups.{item_lines}
use Rattle.h3_command.proofs.uncompacted_lines.DescendantLinesCellLines.lines_of.Goals as goal

pub returns-clause-gives : goal.returns-clause-gives
returns-clause-gives c =
    let all = items_below c.args.self.now.res c.args.cell in record {
      all = all;
      yields = (YieldsList-from_first (λ x. x) child_lines_left all c.lines_below.ensures).runs;
      is = ap written (sym (item_lines c.args.self.now.res c.args.cell c.requires c.descendants_are_children.ensures));
    }
