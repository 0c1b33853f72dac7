-- Cells that come into C's memory after others.
use Rattle.std.specs.Prelude.{◌≡◌, ℕ, ◌+◌, ◌++◌, nat_le, List, length, Option, Some, None, if◌then◌else◌}
use Rattle.h3_index.specs.Cell.{Address}
use Rattle.h3_c.specs.Lists.{indexes, laid_over}

-- end_after place count room: the place after so many items from a place on; none where there is too little room
abbrev pub end_after : ℕ → ℕ → ℕ → Option ℕ
end_after place count room = if nat_le (place + count) room then Some (place + count) else None

-- PutAfter place cells old new: where as many cells as a place says are laid over a list, these come after them
abbrev pub PutAfter : ℕ → List Address → List ℕ → List ℕ → Type 0
PutAfter place cells old new =
    (before : List Address) → (first : List ℕ) → length before ≡ place → old ≡ laid_over (indexes before) first
    → new ≡ laid_over (indexes (before ++ cells)) first
