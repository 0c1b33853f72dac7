-- A round as far as it has come.
use Rattle.std.proofs.Common.{ℕ, ◌≡◌, ◌≢◌, ◌+◌, ◌<◌, ◌≤◌, List, length, take, drop, get_or, Contains, AllPairs}
use Rattle.h3_index.specs.Cell.{Address, IsCell}
use Rattle.h3_index.specs.Descendants.{IsDescendant}
use Rattle.h3_set.specs.Compacted.{parent_of, HasChildren}
use Rattle.h3_tree.specs.PostOrder.{post_order_key as key}

-- what a round at q makes of the first i cells
pub data InSeen (all : List Address) (q i : ℕ) : Address → Type 0 where
  kept : {x : Address} → Contains (take i all) x → (length x.digits ≡ q → ¬ HasChildren (Contains all) (parent_of x))
      → InSeen all q i x
  made : {x : Address} → length x.digits + 1 ≡ q → HasChildren (Contains all) x → (y : Address)
      → Contains (take i all) y → IsDescendant x q y → InSeen all q i x

-- the cells written for the first i
pub record IsRoundSoFar (all : List Address) (q i : ℕ) (written : List Address) : Type 0 where
  pub from_seen : (x : Address) → Contains written x → InSeen all q i x
  pub to_seen : (x : Address) → InSeen all q i x → Contains written x
  pub once : AllPairs (λ a b. a ≢ b) written

-- the loop of a round: w cells are written over the first i, and the others are as they were
pub record IsRoundLoop (all : List Address) (q i w : ℕ) (cells : List Address) : Type 0 where
  pub size : length cells ≡ length all
  pub behind : w ≤ i
  pub rest : drop i cells ≡ drop i all
  pub valid : (x : Address) → Contains (take i all) x → IsCell x
  pub written : IsRoundSoFar all q i (take w cells)

-- the loop over runs: no complete set has children both among the first i and after them
pub record IsMerging (all : List Address) (q i w : ℕ) (cells : List Address) : Type 0 where
  pub so_far : IsRoundLoop all q i w cells
  pub inside : i ≤ length all
  pub whole : (p : Address) → length p.digits + 1 ≡ q → HasChildren (Contains all) p → (y z : Address)
      → IsDescendant p q y → IsDescendant p q z → Contains (take i all) y → Contains (take i all) z

-- and what is written is in order, before all that comes
pub record IsMergingInOrder (all : List Address) (q i w : ℕ) (cells : List Address) : Type 0 where
  pub merging : IsMerging all q i w cells
  pub in_order : (a b : ℕ) (d : Address) → a < b → b < w → key (get_or cells a d) ≤ key (get_or cells b d)
  pub before : (a j : ℕ) (d : Address) → a < w → i ≤ j → j < length all → key (get_or cells a d) ≤ key (get_or all j d)
