use Rattle.h3_numbers.proofs.TotalLaws.{totals_in_any_order, totals_in_parts}
use Rattle.h3_numbers.proofs.laws.totals_are_lawful.Goals as goal

pub returns-clause-order : goal.returns-clause-order
returns-clause-order c = totals_in_any_order

pub returns-clause-parts : goal.returns-clause-parts
returns-clause-parts c = totals_in_parts
