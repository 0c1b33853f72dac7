use Rattle.h3_command.proofs.AncestorLaws.{parents_once, sums_add_up}
use Rattle.h3_command.proofs.laws.parents_add_up.Goals as goal

pub returns-clause-counts : goal.returns-clause-counts
returns-clause-counts c = parents_once c.numbers_are_unique.ensures

pub returns-clause-sums : goal.returns-clause-sums
returns-clause-sums c = sums_add_up c.totals_are_lawful.ensures.parts
