use Rattle.std.proofs.Common.{sym, ◌∙◌}
use Rattle.h3_set.proofs.OverlapLaws.{apart_where, overlap_permuted}
use Rattle.h3_set.proofs.compact.order_apart.Goals as goal

pub returns-clause-apart : goal.returns-clause-apart
returns-clause-apart c =
    apart_where _ (sym (overlap_permuted _ _ c.sort_and_find_overlap.ensures.same)
    ∙ sym c.sort_and_find_overlap.ensures.overlap ∙ c.if-sort_and_find_overlap.false)
