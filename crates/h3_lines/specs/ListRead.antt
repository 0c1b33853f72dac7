-- How the reading of a list of cells ends.
use Rattle.std.specs.Prelude.{◌≡◌, ◌≢◌, ℕ, ◌≤◌, ◌⊎◌, true, List, length, Ok}
use Rattle.h3_index.specs.Cell.{Address}
use Rattle.h3_streams.specs.Stream.{HasLeft}
use Rattle.h3_lines.specs.List.{RefusesList, Says, listed_as}
use Rattle.h3_lines.specs.Numbered.{RefusesAt, faulty_line_as}
use Rattle.h3_lines.specs.Reads.{IsListWithinReads, IsReadToEnd, IsWithinReads, NoReadFails, SourceUse, StopsWithin}
use Rattle.h3_lines.specs.declared.run_error.Fault.TheVariants.{Memory, Read}
use Rattle.h3_lines.specs.declared.run_error.RunError.{RunError}
use Rattle.h3_lines.specs.declared.run_error.RunError.TheVariants.{Fault}

-- ListRead says reads page input cells: a list is read to its end, these are taken for the cells of its lines, and no
-- read fails
--
-- there are bytes of the list, those left in the source where these are known; this many reads of a page of this many
-- bytes can find their end
pub record ListRead (says : Says) (reads page : ℕ) (input : SourceUse) (cells : List Address) : Type 0 where
  pub list : List ℕ
  pub held : HasLeft input.left list
  pub within : IsWithinReads reads page list
  pub is : listed_as says list ≡ Ok cells
  pub sound : NoReadFails input
  pub whole : IsReadToEnd input

-- ListRefused says refuses reads page input e: a list is refused, as `refuses` says of its bytes
--
-- At most a page was read after bytes in which no line is known to be faulty; where a read fails, or no read is left,
-- nothing after such bytes. If the error is the list's own, this many reads of a page can find its end or a faulty
-- line.
pub record ListRefused (says : Says) (refuses : Says → Type 0 → List ℕ → RunError → Type 0) (reads page : ℕ)
    (input : SourceUse) (e : RunError) : Type 0 where
  pub list : List ℕ
  pub held : HasLeft input.left list
  pub refused : refuses says ((input.has_failed ≡ true) ⊎ (reads ≤ length list)) list e
  pub within : e ≢ Fault Read → e ≢ Fault Memory → IsListWithinReads says reads page list
  pub sound : e ≢ Fault Read → NoReadFails input
  pub stops : StopsWithin says page input
  pub faults : e ≡ Fault Read → StopsWithin says 0 input

-- RefusesByError says read_fails list e: the refusal fits the list in these bytes: its own error, out of memory, or a
-- read fault where reads fail
abbrev pub RefusesByError : Says → Type 0 → List ℕ → RunError → Type 0
RefusesByError says read_fails list e = RefusesList read_fails (listed_as says list) e

-- RefusesByLine says read_fails list e: the same, but the list's own error has the number of its first faulty line
abbrev pub RefusesByLine : Says → Type 0 → List ℕ → RunError → Type 0
RefusesByLine says read_fails list e = RefusesAt read_fails (listed_as says list) (faulty_line_as says list) e
