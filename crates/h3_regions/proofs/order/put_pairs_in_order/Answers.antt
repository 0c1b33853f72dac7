use Rattle.std.proofs.Common.{ℕ, rules, arith}
use Rattle.std.proofs.lemmas.List.Sorted.{IsNonDecreasingBy-from_sort_by_key}
use Rattle.h3_index.specs.Cell.{Address}
use Rattle.h3_tree.specs.PostOrder.{post_order_key as key}
use Rattle.h3_regions.proofs.order.put_pairs_in_order.Goals as goal

pub returns-clause-in_order : goal.returns-clause-in_order
returns-clause-in_order c =
    let by : (Address × ℕ) → ℕ = λ p. key p.0 in
    let h =
    IsNonDecreasingBy-from_sort_by_key by c.sort_unstable_by_key.new.self c.sort_unstable_by_key.ensures.sorted
    (λ a r q k. search rules) in
    λ i j d lt lj. h i j d (omega (arith, lt)) lj
