use Rattle.std.proofs.Common.{arith}
use Rattle.h3_set.specs.Compacted.{compacted}
use Rattle.h3_set.specs.Coverage.{finest, IsCovered}
use Rattle.h3_set.proofs.CompactLaws.{cover_themselves}
use Rattle.h3_set.proofs.OverlapLaws.{one_resolution}
use Rattle.h3_set.proofs.PartitionLaws.{compacted_made, finest_is_fine}
use Rattle.h3_set.proofs.SetLaws.{member_top, one_compacted, top_member}
use Rattle.h3_set.proofs.StreamLaws.{streams_once}
use Rattle.h3_set.proofs.laws.compacted_lists_are_unique.Goals as goal

pub returns-clause-unique : goal.returns-clause-unique
returns-clause-unique c = λ cells r a b le p q.
    one_compacted c.cells_form_trees.ensures (IsCovered cells r) r a b (omega (arith, le)) p q

pub returns-clause-only : goal.returns-clause-only
returns-clause-only c = λ cells others valid p.
    let fine = finest_is_fine cells valid in
    one_compacted c.cells_form_trees.ensures (IsCovered cells (finest cells)) (finest cells) others (compacted cells)
    (omega (arith, fine)) p (compacted_made c.cells_form_trees.ensures c.cells_are_listed.ensures cells valid)

pub returns-clause-tops : goal.returns-clause-tops
returns-clause-tops c = λ cells valid x.
    let fine = finest_is_fine cells valid in
    let made = compacted_made c.cells_form_trees.ensures c.cells_are_listed.ensures cells valid in (
      (λ m.
          member_top c.cells_form_trees.ensures (IsCovered cells (finest cells)) (finest cells) (compacted cells)
          (omega (arith, fine)) made x m),
      (λ t.
          top_member c.cells_form_trees.ensures (IsCovered cells (finest cells)) (finest cells) (compacted cells)
          (omega (arith, fine)) made x t),
    )

pub returns-clause-stream : goal.returns-clause-stream
returns-clause-stream c = λ cells valid.
    streams_once c.cells_form_trees.ensures (finest cells) (finest_is_fine cells valid) (IsCovered cells (finest cells))
    (compacted cells) (compacted_made c.cells_form_trees.ensures c.cells_are_listed.ensures cells valid)

pub returns-clause-covered : goal.returns-clause-covered
returns-clause-covered c = λ cells valid same.
    cover_themselves c.cells_form_trees.ensures cells (finest cells) valid same

pub returns-clause-repeats : goal.returns-clause-repeats
returns-clause-repeats c = one_resolution c.cells_form_trees.ensures
