use Rattle.std.proofs.Common.{take, sym, subst, IsPermutation}
use Rattle.std.proofs.lemmas.List.Sorted.{All-permutation}
use Rattle.h3_index.specs.Cell.{IsCell}
use Rattle.h3_set.proofs.CompactLaws.{compacted_permuted}
use Rattle.h3_set.proofs.compact.compact_in_order.Goals as goal

pub compact_apart-requires-clause-valid : goal.compact_apart-requires-clause-valid
compact_apart-requires-clause-valid c =
    All-permutation IsCell _ _ c.order_apart.ensures.same c.order_apart.ensures.valid

pub returns-clause-list : goal.returns-clause-list
returns-clause-list c =
    let same =
    compacted_permuted c.cells_form_trees.ensures c.cells_are_listed.ensures c.args.cells.now
    c.order_apart.new.cells c.order_apart.ensures.valid c.order_apart.ensures.same in
    subst (λ l. IsPermutation l (take c.compact_apart.result c.compact_apart.new.cells)) (sym same)
    c.compact_apart.ensures.list
