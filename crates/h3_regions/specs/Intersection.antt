-- What two regions both cover.
use Rattle.std.specs.Prelude.{ℕ, ◌≡◌, ◌+◌, ◌<◌, ◌≤◌, ◌⊎◌, List, AllPairs, Contains, get_or, length}
use Rattle.h3_index.specs.Cell.{Address}
use Rattle.h3_tree.specs.PostOrder.{post_order_key}
use Rattle.h3_regions.specs.Unions.{HasAncestor}

-- IsShared a b x: x is in one of two lists, and the other covers it
abbrev pub IsShared : List Address → List Address → Address → Type 0
IsShared a b x = (Contains a x × HasAncestor b x) ⊎ (Contains b x × HasAncestor a x)

-- the list has those cells, in post order, each once; cited by private contracts and proofs alone
pub record HoldsShared (a b cells : List Address) : Type 0 where
  pub shared : (x : Address) → Contains cells x → IsShared a b x
  pub all : (x : Address) → IsShared a b x → Contains cells x
  pub in_order : AllPairs (λ x y. post_order_key x < post_order_key y) cells

-- one of the first n cells of a list, which another list covers; cited by private contracts and proofs alone
pub record IsFrom (a b : List Address) (n : ℕ) (x : Address) : Type 0 where
  pub place : ℕ
  pub early : place < n
  pub room : place < length a
  pub is : get_or a place x ≡ x
  pub covered : HasAncestor b x

-- the first i of one list and the first j of the other are seen: none of these comes after one of the other list that
-- is
-- to come, and those that the other list covers are the first w slots, in order; cited as the one above
pub record IsSeen (a b slots : List Address) (i j w : ℕ) : Type 0 where
  pub in_a : i ≤ length a
  pub in_b : j ≤ length b
  pub behind : w ≤ i + j
  pub room : length a + length b ≤ length slots
  pub before_b : (p q : ℕ) (d : Address) → p < i → j ≤ q → q < length b
      → post_order_key (get_or a p d) ≤ post_order_key (get_or b q d)
  pub before_a : (q p : ℕ) (d : Address) → q < j → i ≤ p → p < length a
      → post_order_key (get_or b q d) ≤ post_order_key (get_or a p d)
  pub chosen : (k : ℕ) (d : Address) → k < w → IsFrom a b i (get_or slots k d) ⊎ IsFrom b a j (get_or slots k d)
  pub all_a : (p : ℕ) (d : Address) → p < i → HasAncestor b (get_or a p d)
      → (k : ℕ) × (k < w) × (get_or slots k d ≡ get_or a p d)
  pub all_b : (q : ℕ) (d : Address) → q < j → HasAncestor a (get_or b q d)
      → (k : ℕ) × (k < w) × (get_or slots k d ≡ get_or b q d)
  pub rises : (k l : ℕ) (d : Address) → k < l → l < w
      → post_order_key (get_or slots k d) < post_order_key (get_or slots l d)
