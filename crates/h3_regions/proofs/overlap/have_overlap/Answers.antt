use Rattle.std.specs.List.Sorted.{IsPermutation}
use Rattle.std.proofs.Common.{◌∙◌, sym, subst}
use Rattle.std.proofs.lemmas.List.Sorted.{All-permutation}
use Rattle.h3_index.specs.Cell.{IsCell}
use Rattle.h3_regions.proofs.ZoneLaws.{overlap_permuted}
use Rattle.h3_regions.proofs.overlap.have_overlap.Goals as goal

pub has_overlap-requires-clause-valid : goal.has_overlap-requires-clause-valid
has_overlap-requires-clause-valid c =
    let same =
    subst (λ l. IsPermutation l c.put_in_order.new.cells) c.copy_from_slice.ensures.after
    c.put_in_order.ensures.same in
    All-permutation IsCell c.args.cells.now c.put_in_order.new.cells same c.are_cells.ensures

pub returns : goal.returns
returns c =
    let same =
    subst (λ l. IsPermutation l c.put_in_order.new.cells) c.copy_from_slice.ensures.after
    c.put_in_order.ensures.same in
    c.has_overlap.ensures
    ∙ sym (overlap_permuted c.coverages_decide_lists.ensures.overlaps c.coverages_decide_lists.ensures.reordered
    c.args.cells.now c.put_in_order.new.cells same)
