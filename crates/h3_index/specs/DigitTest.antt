-- The digits of a number that is a cell's. Private contracts and proofs alone cite this file.
use Rattle.std.specs.Prelude.{ℕ, ◌==◌, nat_lt, List, take, drop, Bool, ◌&&◌, not}
use Rattle.std.specs.List.{list_all}
use Rattle.h3_index.specs.Cell.{leading}

-- those up to the resolution are 0 to 6, and the first of them that is not 0 is not 1 where that child is deleted; the
-- others are 7
abbrev pub are_digits : Bool → ℕ → List ℕ → Bool
are_digits deleted resolution ds =
    list_all (λ d. nat_lt d 7) (take resolution ds) && list_all (λ d. d == 7) (drop resolution ds)
    && not (deleted && leading (take resolution ds) == 1)
