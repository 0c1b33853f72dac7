-- Compaction in one pass over cells in post order, in which each complete set of siblings is replaced by the parent as
-- soon as its last one has come. Private contracts and proofs alone cite this file.
use Rattle.std.specs.Prelude.{ℕ, ◌≡◌, ◌<◌, ◌≤◌, length, take, drop, ◌⊎◌, ◌↔◌, List, [], ◌∷◌, ◌++◌, All, AllPairs, Contains}
use Rattle.h3_index.specs.Cell.{Address, IsCell, resolution}
use Rattle.h3_index.specs.Descendants.{children}
use Rattle.h3_set.specs.Compacted.{HasChildren}
use Rattle.h3_set.specs.Coverage.{IsCovered}
use Rattle.h3_set.specs.Order.{IsBeforeBlock}

-- cells, each of which comes before the later ones and all cells below these; so they are in post order, and no two
-- overlap
pub record IsRising (cells : List Address) : Type 0 where
  pub valid : All IsCell cells
  pub rises : AllPairs IsBeforeBlock cells

-- the list holds no complete set of siblings
abbrev pub HasNoSet : List Address → Type 0
HasNoSet cells = (p : Address) → ¬ HasChildren (Contains cells) p

-- the list is the cell alone, or the children of the cell, in ascending order
abbrev pub StandsFor : Address → List Address → Type 0
StandsFor c cells = (cells ≡ c ∷ []) ⊎ ((resolution c < 15) × IsCell c × (cells ≡ children c))

-- the second list rises, and covers the same as the first at resolution 15
pub record IsReduction (before after : List Address) : Type 0 where
  pub rising : IsRising after
  pub alike : (x : Address) → IsCovered before 15 x ↔ IsCovered after 15 x

-- whatever comes after the first list, the second may stand in its place
abbrev pub ReducesTo : List Address → List Address → Type 0
ReducesTo before after =
    (rest : List Address) → IsRising (before ++ rest) → IsReduction (before ++ rest) (after ++ rest)

-- the pass: w cells are written over the first i of a list, stand for these, and hold no complete set of siblings
pub record IsClosing (all cells : List Address) (w i : ℕ) : Type 0 where
  pub behind : w ≤ i
  pub within : i ≤ length cells
  pub size : length cells ≡ length all
  pub rest : drop i cells ≡ drop i all
  pub reduced : IsReduction all (take w cells ++ drop i all)
  pub closed : HasNoSet (take w cells)
