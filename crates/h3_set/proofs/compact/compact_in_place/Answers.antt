use Rattle.std.proofs.Common.{take, drop, arith, sym, subst}
use Rattle.std.proofs.lemmas.List.{length-take-le, take_at}
use Rattle.std.proofs.lemmas.List.Sorted.{length_permutation, All-permutation, IsPermutation-trans}
use Rattle.std.specs.List.Sorted.{IsPermutation}
use Rattle.h3_index.specs.Cell.{IsCell}
use Rattle.h3_set.specs.Compacted.{compacted, IsCompacted}
use Rattle.h3_set.specs.Coverage.{finest, IsCovered}
use Rattle.h3_set.proofs.CompactLaws.{compacted_permuted, sorted_is}
use Rattle.h3_set.proofs.PartitionLaws.{compacted_made, finest_is_fine}
use Rattle.h3_set.proofs.SetLaws.{one_compacted}
use Rattle.h3_set.proofs.compact.compact_in_place.Goals as goal

pub compact_apart-count-requires-clause-valid : goal.compact_apart-count-requires-clause-valid
compact_apart-count-requires-clause-valid c =
    All-permutation IsCell _ _ c.order_apart.ensures.same c.order_apart.ensures.valid

pub returns-clause-compacted : goal.returns-clause-compacted
returns-clause-compacted c =
    let cells = c.args.cells.now in
    let made = c.compact_apart-count.new.cells in
    let m = c.compact_apart-count.result in
    let sorted = c.put_by_number.new.cells in
    let size = length_permutation (take m made) sorted c.put_by_number.ensures.same in
    let front =
    take_at sorted (drop m made) m (omega (
      arith,
      size,
      length-take-le m made
          (omega (arith, c.compact_apart-count.ensures.fewer, c.compact_apart-count.auto.cells)),
    )) in
    let same =
    compacted_permuted c.cells_form_trees.ensures c.cells_are_listed.ensures cells c.order_apart.new.cells
    c.order_apart.ensures.valid c.order_apart.ensures.same in
    let list : IsPermutation (compacted cells) sorted =
    IsPermutation-trans (compacted cells) (take m made) sorted
    (subst (λ l. IsPermutation l (take m made)) (sym same) c.compact_apart-count.ensures.list)
    c.put_by_number.ensures.same in
    subst (IsCompacted (IsCovered cells (finest cells)) (finest cells)) (sym front)
    (sorted_is c.cells_form_trees.ensures c.cells_are_listed.ensures cells sorted c.order_apart.ensures.valid list
    c.put_by_number.ensures.ascending)

pub returns-clause-is : goal.returns-clause-is
returns-clause-is c =
    let cells = c.args.cells.now in
    let fine = finest_is_fine cells c.order_apart.ensures.valid in
    one_compacted c.cells_form_trees.ensures (IsCovered cells (finest cells)) (finest cells) _ _ (omega (arith, fine))
    (returns-clause-compacted c)
    (compacted_made c.cells_form_trees.ensures c.cells_are_listed.ensures cells c.order_apart.ensures.valid)
