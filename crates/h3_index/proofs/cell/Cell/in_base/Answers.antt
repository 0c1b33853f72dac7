use Rattle.h3_index.proofs.CountLaws.{base_valid, number_base}
use Rattle.h3_index.proofs.MoveLaws.{made_valid, made_is}
use Rattle.std.proofs.Common.{sym, subst}
use Rattle.h3_index.specs.Cell.{IsCell}
use Rattle.h3_index.specs.Count.{base_cell}
use Rattle.h3_index.proofs.cell.Cell.in_base.Goals as goal

pub invariant_of-result : goal.invariant_of-result
invariant_of-result c =
    made_valid _ (base_cell c.args.base) (base_valid c.args.base c.requires)
    (number_base c.args.base _ c.from.ensures c.requires)

pub returns-clause-is : goal.returns-clause-is
returns-clause-is c =
    made_is _ (base_cell c.args.base) (base_valid c.args.base c.requires)
    (number_base c.args.base _ c.from.ensures c.requires)

pub returns-clause-valid : goal.returns-clause-valid
returns-clause-valid c =
    subst IsCell
    (sym (made_is _ (base_cell c.args.base) (base_valid c.args.base c.requires)
    (number_base c.args.base _ c.from.ensures c.requires)))
    (base_valid c.args.base c.requires)
