use Rattle.std.proofs.Common.{sym, ◌∙◌}
use Rattle.std.proofs.lemmas.List.Sorted.{All-permutation}
use Rattle.h3_index.specs.Cell.{IsCell}
use Rattle.h3_set.proofs.OverlapLaws.{none_where, overlap_permuted, rising_apart, rising_order}
use Rattle.h3_set.proofs.order.sort_and_find_overlap.Goals as goal

pub returns-then-rises-clause-in_order : goal.returns-then-rises-clause-in_order
returns-then-rises-clause-in_order c =
    rising_order c.cells_form_intervals.ensures c.args.cells.now c.requires.valid (c.requires.rises c.if-rises.true)

pub returns-then-rises-clause-overlap : goal.returns-then-rises-clause-overlap
returns-then-rises-clause-overlap c =
    sym (none_where c.args.cells.now (rising_apart c.cells_form_intervals.ensures c.args.cells.now c.requires.valid
    (c.requires.rises c.if-rises.true)))

pub returns-clause-overlap : goal.returns-clause-overlap
returns-clause-overlap c = c.has_overlap.ensures ∙ sym (overlap_permuted _ _ c.put_in_order.ensures.same)

pub has_overlap-requires-clause-valid : goal.has_overlap-requires-clause-valid
has_overlap-requires-clause-valid c = All-permutation IsCell _ _ c.put_in_order.ensures.same c.requires.valid
