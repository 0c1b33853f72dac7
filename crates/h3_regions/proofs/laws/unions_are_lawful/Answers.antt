use Rattle.h3_regions.proofs.AlgebraLaws.{covers_both, in_any_order, in_parts, of_one}
use Rattle.h3_regions.proofs.laws.unions_are_lawful.Goals as goal

pub returns-clause-covers : goal.returns-clause-covers
returns-clause-covers c = covers_both

pub returns-clause-in_any_order : goal.returns-clause-in_any_order
returns-clause-in_any_order c = in_any_order c.coverages_decide_lists.ensures.decide

pub returns-clause-in_parts : goal.returns-clause-in_parts
returns-clause-in_parts c = in_parts c.coverages_decide_lists.ensures.parts

pub returns-clause-of_one : goal.returns-clause-of_one
returns-clause-of_one c =
    of_one c.coverages_decide_lists.ensures.decide c.coverages_decide_lists.ensures.compacted
    c.coverages_decide_lists.ensures.alike c.coverages_decide_lists.ensures.another_order
