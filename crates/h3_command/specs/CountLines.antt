-- The lines of counts that are still to be written. Private contracts and proofs alone cite this file.
use Rattle.std.specs.Prelude.{ℕ, zero, suc, ◌-◌, ◌==◌, List, [], ◌∷◌, ◌++◌, drop, Option, None, Some, if◌then◌else◌}
use Rattle.h3_index.specs.Cell.{Address, resolution}
use Rattle.h3_command.specs.declared.count_lines.CountLines.{CountLines}

-- the zones of a resolution, each with its count, as they stand
abbrev pub at_resolution : ℕ → List Address → List ℕ → List (Option Address × ℕ)
at_resolution r [] counts = []
at_resolution r (z ∷ zones) [] = []
at_resolution r (z ∷ zones) (n ∷ counts) =
    if resolution z == r then (Some z, n) ∷ at_resolution r zones counts else at_resolution r zones counts

-- the zones of the so many finest resolutions, each with its count, coarsest first
abbrev pub in_passes : ℕ → List Address → List ℕ → List (Option Address × ℕ)
in_passes zero zones counts = []
in_passes (suc passes) zones counts = at_resolution (16 - suc passes) zones counts ++ in_passes passes zones counts

-- the same, of which the first pass goes on from a place
abbrev pub from_place : ℕ → ℕ → List Address → List ℕ → List (Option Address × ℕ)
from_place zero place zones counts = []
from_place (suc passes) place zones counts =
    at_resolution (16 - suc passes) (drop place zones) (drop place counts) ++ in_passes passes zones counts

-- the line of those that have no zone, where it is still to come
abbrev pub others_line : Option ℕ → List (Option Address × ℕ)
others_line None = []
others_line (Some n) = (None, n) ∷ []

-- the zones with their counts, and then no zone with the number of others, that are still to come
unfoldable pub lines_left : CountLines → List (Option Address × ℕ)
lines_left s = from_place s.passes s.place s.zones.now s.counts.now ++ others_line s.others
