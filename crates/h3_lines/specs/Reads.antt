-- What a source is before a call and after it, and how far a list is read.
use Rattle.std.specs.Prelude.{◌≡◌, ℕ, ◌+◌, ◌≤◌, ◌*◌, ◌⊎◌, Bool, List, [], ◌∷◌, ◌++◌, length, Option, Some, Err, IsOk}
use Rattle.h3_index.specs.declared.error.H3Error.{H3Error}
use Rattle.h3_lines.specs.Beginning.{SomeBeginning}
use Rattle.h3_lines.specs.List.{Says, cells_said, lines_of, listed_as}

-- ---- a source

-- SourceUse: what a source had left before a call and has after it, where known, and whether it had failed and has
pub record SourceUse : Type 0 where
  pub left : Option (List ℕ)
  pub left_after : Option (List ℕ)
  pub had_failed : Bool
  pub has_failed : Bool

-- source_use: that use of a source, from its two states
abbrev pub source_use : {S : Type 0} → (S → Option (List ℕ)) → (S → Bool) → S → S → SourceUse
source_use left failed old new =
    record { left = left old; left_after = left new; had_failed = failed old; has_failed = failed new }

-- NoReadFails source: no read of it failed
abbrev pub NoReadFails : SourceUse → Type 0
NoReadFails source = source.has_failed ≡ source.had_failed

-- IsReadToEnd source: where the bytes left in the source were known, all of them were taken
abbrev pub IsReadToEnd : SourceUse → Type 0
IsReadToEnd source = (list : List ℕ) → source.left ≡ Some list → source.left_after ≡ Some []

-- ---- how far it is read

-- IsWithinReads reads page bytes: this many reads of a page of this many bytes can find the end of the bytes
abbrev pub IsWithinReads : ℕ → ℕ → List ℕ → Type 0
IsWithinReads reads page bytes = length bytes + page ≤ reads * page

-- ---- what is taken for the indexes of a list says which of its lines are faulty

-- IsKnownFaulty says bytes: a list that begins with these bytes is an error, the same whatever bytes come after them
abbrev pub IsKnownFaulty : Says → List ℕ → Type 0
IsKnownFaulty says bytes = (e : H3Error) × ((after : List ℕ) → listed_as says (bytes ++ after) ≡ Err e)

-- IsListWithinReads says reads page list: the reads can find the end of the list, or take a beginning of it that is
-- known to be faulty
abbrev pub IsListWithinReads : Says → ℕ → ℕ → List ℕ → Type 0
IsListWithinReads says reads page list =
    IsWithinReads reads page list ⊎ SomeBeginning (λ part. IsKnownFaulty says part × (length part ≤ reads * page)) list

-- HasNoFaultYet says bytes: no line that ends in the bytes is faulty, and the last one has at most 64 bytes
--
-- no line of the bytes is known to be faulty: those that end in them are not, and the last one, which may go on after
-- them, has at most 64 bytes
pub record HasNoFaultYet (says : Says) (bytes : List ℕ) : Type 0 where
  pub ended : List (List ℕ)
  pub last : List ℕ
  pub lines : lines_of bytes ≡ ended ++ last ∷ []
  pub good : IsOk (cells_said says ended)
  pub short : length last ≤ 64

-- StopsAtFault says most list left: these bytes of a list are left, and at most so many were taken after bytes that
-- have no fault yet
pub record StopsAtFault (says : Says) (most : ℕ) (list left : List ℕ) : Type 0 where
  pub before : List ℕ
  pub last : List ℕ
  pub split : list ≡ before ++ last ++ left
  pub within : length last ≤ most
  pub good : HasNoFaultYet says before

-- StopsWithin says n source: where the bytes left in the source were known, at most n were taken after bytes in which
-- no line is known to be faulty
abbrev pub StopsWithin : Says → ℕ → SourceUse → Type 0
StopsWithin says n source =
    (list : List ℕ) → source.left ≡ Some list
    → (left : List ℕ) × (source.left_after ≡ Some left) × StopsAtFault says n list left
