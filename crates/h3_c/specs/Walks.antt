-- Walks in C's memory.
use Rattle.std.specs.Prelude.{ℕ, zero, suc, List, [], ◌∷◌, map, take, Result, Ok, Err}
use Rattle.h3_index.specs.Cell.{Address, number_of}
use Rattle.h3_index.specs.Error.{error_number}
use Rattle.h3_index.specs.declared.error.H3Error.{H3Error}
use Rattle.h3_functions.specs.Walks.{Walk}
use Rattle.h3_c.specs.Lists.{indexes, laid_over}

-- given items: what a walk gives before its error
unfoldable pub given : {A : Type 0} → List (Result A H3Error) → List A
given [] = []
given (Ok x ∷ rest) = x ∷ given rest
given (Err e ∷ rest) = []

-- items_code items room: 0; or the number of the walk's error; or 14 where it gives more before that than there is room
-- for
unfoldable pub items_code : {A : Type 0} → List (Result A H3Error) → ℕ → ℕ
items_code [] room = 0
items_code (Err e ∷ rest) room = error_number e
items_code (Ok x ∷ rest) zero = 14
items_code (Ok x ∷ rest) (suc room) = items_code rest room

-- walk_code walk room: the same, or the number of the error with which the walk is refused before it begins
abbrev pub walk_code : {A : Type 0} → Walk A → ℕ → ℕ
walk_code (Ok items) room = items_code items room
walk_code (Err e) room = error_number e

-- walk_over walk old: the indexes of the cells that are given, laid over what was there
abbrev pub walk_over : Walk Address → List ℕ → List ℕ
walk_over (Ok items) old = laid_over (indexes (given items)) old
walk_over (Err e) old = old

-- ---- cells with their rings, in two arrays: of each, as many as there is room for in both

-- cells_over walk room old: of cells with their rings: the indexes of as many as there is room for, laid over what was
-- there
abbrev pub cells_over : Walk (Address × ℕ) → ℕ → List ℕ → List ℕ
cells_over (Ok items) room old = laid_over (take room (map (λ x. number_of x.0) (given items))) old
cells_over (Err e) room old = old

-- rings_over walk room old: of cells with their rings: the rings of as many as there is room for, laid over what was
-- there
abbrev pub rings_over : Walk (Address × ℕ) → ℕ → List ℕ → List ℕ
rings_over (Ok items) room old = laid_over (take room (map (λ x. x.1) (given items))) old
rings_over (Err e) room old = old
