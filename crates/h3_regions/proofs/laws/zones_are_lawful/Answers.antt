use Rattle.h3_regions.proofs.CountingLaws.{none_counted}
use Rattle.h3_regions.proofs.NumberLaws.{number_of_ascending, number_permuted}
use Rattle.h3_regions.proofs.ZoneLaws.{zones_are_one, zones_in_any_order}
use Rattle.h3_regions.proofs.laws.zones_are_lawful.Goals as goal

pub returns-clause-one : goal.returns-clause-one
returns-clause-one c = zones_are_one c.cells_form_trees.ensures c.coverages_decide_lists.ensures.ancestors

pub returns-clause-in_any_order : goal.returns-clause-in_any_order
returns-clause-in_any_order c =
    zones_in_any_order c.cells_form_trees.ensures c.coverages_decide_lists.ensures.ancestors
    c.coverages_decide_lists.ensures.reordered
    (λ zones others apart valid same.
    number_permuted c.cells_form_trees.ensures c.cells_form_intervals.ensures
    c.coverages_decide_lists.ensures.ancestors c.cells_are_listed.ensures
    c.coverages_decide_lists.ensures.reordered zones others valid apart same)

pub returns-clause-by_number : goal.returns-clause-by_number
returns-clause-by_number c =
    number_of_ascending c.cells_form_trees.ensures c.cells_form_intervals.ensures
    c.coverages_decide_lists.ensures.ancestors c.cells_are_listed.ensures

pub returns-clause-nothing : goal.returns-clause-nothing
returns-clause-nothing c = none_counted
