use Rattle.std.specs.List.Sorted.{IsPermutation}
use Rattle.std.proofs.Common.{◌≡◌, ◌++◌, take, drop, arith, sym, subst}
use Rattle.std.proofs.lemmas.List.{take-append-le}
use Rattle.std.proofs.lemmas.List.Sorted.{All-permutation}
use Rattle.h3_index.specs.Cell.{IsCell}
use Rattle.h3_set.specs.Compacted.{compacted}
use Rattle.h3_set.specs.Coverage.{finest, IsCovered}
use Rattle.h3_regions.proofs.CoverageLaws.{coarsest_compacts, kept_valid}
use Rattle.h3_regions.proofs.RegionLaws.{as_region}
use Rattle.h3_regions.proofs.unions.unite_in_order.Goals as goal
use Rattle.h3_regions.proofs.unions.unite_in_order.Goals.{After-cells-3-1}

pub keep_coarsest-count-requires-clause-valid : goal.keep_coarsest-count-requires-clause-valid
keep_coarsest-count-requires-clause-valid c =
    All-permutation IsCell c.args.cells.now c.put_in_order.new.cells c.put_in_order.ensures.same c.are_cells.ensures

pub compact_apart-requires-clause-valid : goal.compact_apart-requires-clause-valid
compact_apart-requires-clause-valid c =
    kept_valid c.cells_form_trees.ensures c.put_in_order.new.cells
    (take c.keep_coarsest-count.result c.keep_coarsest-count.new.cells)
    (All-permutation IsCell c.args.cells.now c.put_in_order.new.cells c.put_in_order.ensures.same
    c.are_cells.ensures)
    c.keep_coarsest-count.ensures.kept

-- the first cells
front : (c : After-cells-3-1)
    → take c.compact_apart.result
    (c.compact_apart.new.cells ++ drop c.keep_coarsest-count.result c.keep_coarsest-count.new.cells)
    ≡ take c.compact_apart.result c.compact_apart.new.cells
front c =
    take-append-le c.compact_apart.result c.compact_apart.new.cells
    (drop c.keep_coarsest-count.result c.keep_coarsest-count.new.cells)
    (omega (arith, c.compact_apart.ensures.fewer, c.compact_apart.auto.cells))

list : (c : After-cells-3-1)
    → IsPermutation (compacted c.args.cells.now) (take c.compact_apart.result c.compact_apart.new.cells)
list c =
    subst (λ l. IsPermutation l (take c.compact_apart.result c.compact_apart.new.cells))
    (coarsest_compacts c.cells_form_trees.ensures c.coverages_decide_lists.ensures.decide c.args.cells.now
    c.put_in_order.new.cells (take c.keep_coarsest-count.result c.keep_coarsest-count.new.cells)
    c.are_cells.ensures c.put_in_order.ensures.same c.keep_coarsest-count.ensures.kept)
    c.compact_apart.ensures.list

pub returns-clause-list : goal.returns-clause-list
returns-clause-list c = subst (IsPermutation (compacted c.args.cells.now)) (sym (front c)) (list c)

pub returns-clause-region : goal.returns-clause-region
returns-clause-region c =
    let k = c.coverages_decide_lists.ensures.compacted c.args.cells.now c.are_cells.ensures in
    rw (front c) (as_region c.cells_form_intervals.ensures (IsCovered c.args.cells.now (finest c.args.cells.now))
    (finest c.args.cells.now) (compacted c.args.cells.now) (take c.compact_apart.result c.compact_apart.new.cells) k
    (list c) c.compact_apart.ensures.in_order
    (c.coverages_decide_lists.ensures.reordered (compacted c.args.cells.now)
    (take c.compact_apart.result c.compact_apart.new.cells) (list c) k.apart))
