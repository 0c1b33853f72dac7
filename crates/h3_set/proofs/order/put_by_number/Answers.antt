use Rattle.std.proofs.Common.{arith}
use Rattle.std.proofs.lemmas.List.Sorted.{IsNonDecreasingBy-from_sort}
use Rattle.h3_index.specs.Cell.{number_of}
use Rattle.h3_set.proofs.order.put_by_number.Goals as goal

pub returns-clause-ascending : goal.returns-clause-ascending
returns-clause-ascending c = λ i j d lt lj.
    IsNonDecreasingBy-from_sort number_of _ c.sort_unstable.ensures.sorted i j d (omega (arith, lt)) lj
