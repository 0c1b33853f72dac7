-- Equal cells that stand together in a list that ascends, and the rows that are put of them. Private contracts and
-- proofs alone cite this file.
use Rattle.std.specs.Prelude.{◌≡◌, ◌≢◌, ℕ, ◌<◌, ◌≤◌, List, ◌++◌, length, drop, get_or, map}
use Rattle.h3_index.specs.Cell.{Address, number_of}
use Rattle.h3_command.specs.Parents.{distinct}

-- IsRun cells i j: the cells from the place i up to j are one cell, and the next one is another
pub record IsRun (cells : List Address) (i j : ℕ) : Type 0 where
  pub some : i < j
  pub within : j ≤ length cells
  pub same : (k : ℕ) (d : Address) → i ≤ k → k < j → number_of (get_or cells k d) ≡ number_of (get_or cells i d)
  pub next : (d : Address) → j < length cells → number_of (get_or cells j d) ≢ number_of (get_or cells i d)

-- ArePut row cells i rows: these are the rows of the distinct cells before the place i, at which another cell begins
pub record ArePut {X : Type 0} (row : Address → X) (cells : List Address) (i : ℕ) (rows : List X) : Type 0 where
  pub within : i ≤ length cells
  pub split : map row (distinct cells) ≡ rows ++ map row (distinct (drop i cells))
  pub begun : (k : ℕ) (d : Address) → k < i → i < length cells
      → number_of (get_or cells k d) < number_of (get_or cells i d)
