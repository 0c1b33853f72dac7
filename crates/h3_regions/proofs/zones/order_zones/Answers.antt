use Rattle.std.proofs.Common.{◌∙◌, sym}
use Rattle.std.proofs.lemmas.List.Sorted.{All-permutation}
use Rattle.h3_index.specs.Cell.{IsCell}
use Rattle.h3_regions.proofs.RegionLaws.{ordered_zones}
use Rattle.h3_regions.proofs.ZoneLaws.{overlap_permuted, refused_where, taken_where}
use Rattle.h3_regions.proofs.zones.order_zones.Goals as goal

pub has_overlap-requires-clause-valid : goal.has_overlap-requires-clause-valid
has_overlap-requires-clause-valid c =
    All-permutation IsCell c.args.cells.now c.put_in_order.new.cells c.put_in_order.ensures.same c.are_cells.ensures

pub returns-then-has_overlap-clause-refused : goal.returns-then-has_overlap-clause-refused
returns-then-has_overlap-clause-refused c =
    refused_where c.args.cells.now (overlap_permuted c.coverages_decide_lists.ensures.overlaps
    c.coverages_decide_lists.ensures.reordered c.args.cells.now c.put_in_order.new.cells c.put_in_order.ensures.same
    ∙ sym c.has_overlap.ensures ∙ c.if-has_overlap.true)

pub returns-clause-refused : goal.returns-clause-refused
returns-clause-refused c =
    taken_where c.args.cells.now (overlap_permuted c.coverages_decide_lists.ensures.overlaps
    c.coverages_decide_lists.ensures.reordered c.args.cells.now c.put_in_order.new.cells c.put_in_order.ensures.same
    ∙ sym c.has_overlap.ensures ∙ c.if-has_overlap.false)

pub returns-clause-zones : goal.returns-clause-zones
returns-clause-zones c =
    ordered_zones c.cells_form_intervals.ensures c.put_in_order.new.cells
    (All-permutation IsCell c.args.cells.now c.put_in_order.new.cells c.put_in_order.ensures.same
    c.are_cells.ensures)
    c.put_in_order.ensures.in_order ((c.coverages_decide_lists.ensures.overlaps c.put_in_order.new.cells).0
    (sym c.has_overlap.ensures ∙ c.if-has_overlap.false))
