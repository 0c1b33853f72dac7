use Rattle.h3_regions.proofs.CountingLaws.{counts_in_parts}
use Rattle.h3_regions.proofs.SumLaws as sums
use Rattle.h3_regions.proofs.laws.counts_add_up.Goals as goal

pub returns-clause-whole : goal.returns-clause-whole
returns-clause-whole c =
    sums.counts_add_up c.cells_form_trees.ensures c.coverages_decide_lists.ensures.ancestors
    c.cells_form_intervals.ensures c.cells_are_listed.ensures

pub returns-clause-parts : goal.returns-clause-parts
returns-clause-parts c = counts_in_parts
