use Rattle.std.proofs.Common.{rules}
use Rattle.std.proofs.lemmas.List.Sorted.{IsNonDecreasingBy-from_sort_by_key}
use Rattle.h3_index.specs.Cell.{number_of}
use Rattle.h3_command.proofs.parents.put_in_order.Goals as goal

pub returns-clause-in_order : goal.returns-clause-in_order
returns-clause-in_order g c =
    IsNonDecreasingBy-from_sort_by_key (λ t. number_of (g.T.HasCell.cell_of t)) c.sort_unstable_by_key.new.self
    c.sort_unstable_by_key.ensures.sorted (λ a r q k. search rules)
