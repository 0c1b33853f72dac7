use Rattle.std.proofs.Common.{rules, ◌∙◌}
use Rattle.std.proofs.lemmas.List.Sorted.{IsNonDecreasingBy-from_sort_by_key}
use Rattle.h3_index.specs.Cell.{number_of}
use Rattle.h3_regions.proofs.NumberLaws.{in_number_order, number_is}
use Rattle.h3_regions.proofs.zones.order_by_number.Goals as goal

pub returns-clause-is : goal.returns-clause-is
returns-clause-is c =
    let order =
    IsNonDecreasingBy-from_sort_by_key number_of c.sort_unstable_by_key.new.self
    c.sort_unstable_by_key.ensures.sorted (λ a r q k. search rules) in
    in_number_order c.cells_form_trees.ensures c.cells_form_intervals.ensures c.coverages_decide_lists.ensures.ancestors
    c.cells_are_listed.ensures c.coverages_decide_lists.ensures.reordered c.args.cells.now
    c.sort_unstable_by_key.new.self c.are_cells.ensures c.requires c.sort_unstable_by_key.ensures.permutation order

pub returns-clause-region : goal.returns-clause-region
returns-clause-region c = λ region.
    returns-clause-is c
    ∙ number_is c.cells_form_trees.ensures c.cells_form_intervals.ensures c.coverages_decide_lists.ensures.ancestors
    c.cells_are_listed.ensures c.coverages_decide_lists.ensures.reordered c.coverages_decide_lists.ensures.compacted
    c.args.cells.now c.args.cells.now c.are_cells.ensures
    (c.coverages_decide_lists.ensures.another_order c.args.cells.now region.valid region.apart region.no_siblings)
