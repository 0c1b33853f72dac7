-- Iterators that functions return.
use Rattle.std.specs.Prelude.{◌≡◌, List, Option, Result, Ok, Err}
use Rattle.std.specs.Iterator.{AlwaysYields}
use Rattle.h3_index.specs.declared.error.H3Error.{H3Error}

-- Lists steps result all: the result has an iterator that yields the items of a list, or both have the same error
abbrev pub Lists : {S A : Type 0} → (S → Option A → S → Type 0) → Result S H3Error → Result (List A) H3Error → Type 0
Lists steps (Ok items) (Ok all) = AlwaysYields steps (λ x. x) items all
Lists steps (Err e) (Err d) = e ≡ d
Lists steps (Ok items) (Err d) = ⊥
Lists steps (Err e) (Ok all) = ⊥
