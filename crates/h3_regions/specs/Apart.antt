-- The outermost cells of areas of which no two overlap. Private contracts and proofs alone cite this file.
use Rattle.std.specs.Prelude.{ℕ, ◌≡◌, ◌<◌, List, All, AllPairs, map}
use Rattle.h3_index.specs.Cell.{Address, IsCell}
use Rattle.h3_tree.specs.PostOrder.{post_order_key}
use Rattle.h3_set.specs.Coverage.{Overlap}

-- pairs in post order, of which no two cells overlap
pub record AreOuter (areas : List (Address × ℕ)) : Type 0 where
  pub valid : All (λ p. IsCell p.0) areas
  pub in_order : AllPairs (λ p q. post_order_key p.0 < post_order_key q.0) areas
  pub apart : AllPairs (λ p q. ¬ Overlap p.0 q.0) areas

-- such pairs, and a list of their cells
pub record IsApartTable (areas : List (Address × ℕ)) (cells : List Address) : Type 0 where
  pub outer : AreOuter areas
  pub cells_are : cells ≡ map (λ p. p.0) areas
