-- What is made of the cells of a list and those of a file. Private contracts and proofs alone cite this file.
use Rattle.std.specs.Prelude.{◌≡◌, ◌++◌, ◌<◌, ◌↔◌, ℕ, All, List, Option, IsPermutation, get_or, length}
use Rattle.h3_index.specs.Cell.{Address, IsCell}
use Rattle.h3_set.specs.Coverage.{IsCovered}
use Rattle.h3_command.specs.ByValue.{AreApart, part_of}
use Rattle.h3_lines.specs.declared.run_error.CellFile.{CellFile}
use Rattle.h3_lines.specs.declared.run_error.CellFile.TheVariants.{Region, Zones}
use Rattle.h3_lines.specs.declared.run_error.RunError.{RunError}
use Rattle.h3_lines.specs.declared.run_error.RunError.TheVariants.{Error, Fault}
use Rattle.h3_lines.specs.Answer.{Answer, cell_lines, printed, truth_line, written}
use Rattle.h3_regions.specs.Algebra.{difference, intersection}
use Rattle.h3_regions.specs.Zones.{IsZones}
use Rattle.h3_command.specs.Files.{error_of_file, is_covered_cell}
use Rattle.h3_command.specs.declared.files.Combination.{Combination}
use Rattle.h3_command.specs.declared.files.Combination.TheVariants.{Left, Shared}

-- what both cover, or what the list covers and the file does not
abbrev pub combined : Combination → List Address → List Address → List Address
combined Shared file cells = intersection cells file
combined Left file cells = difference cells file

-- the lines of that
abbrev pub combined_answer : Combination → List Address → List Address → Answer
combined_answer kind file cells = written (cell_lines (combined kind file cells))

-- the cells of a file in the order in which they are used: those of a region as they are listed, zones so that one is
-- looked up
abbrev pub AreArranged : CellFile → List Address → List Address → Type 0
AreArranged Region listed cells = cells ≡ listed
AreArranged Zones listed cells = IsPermutation listed cells × IsZones cells

-- the refusal of a list, with the kind of its file
abbrev pub in_file : CellFile → RunError → RunError
in_file file (Error e) = Error (error_of_file file e)
in_file file (Fault f) = Fault f

-- whether a region covers the cell with an index
abbrev pub region_answer : List Address → Option ℕ → Answer
region_answer region index = printed truth_line (is_covered_cell region index)

-- IsRegionOf listed region: the list has valid cells, and a region's list covers what they do, at resolution 15: no
-- cell
-- is finer
pub record IsRegionOf (listed region : List Address) : Type 0 where
  pub valid : All IsCell listed
  pub covers : (x : Address) → IsCovered region 15 x ↔ IsCovered listed 15 x

-- IsCut kind region cells made: these are what is made of the cells and those of a list of which the region is
abbrev pub IsCut : Combination → List Address → List Address → List Address → Type 0
IsCut kind region cells made =
    (listed : List Address) → IsRegionOf listed region → made ≡ combined kind listed cells

-- IsCutBehind kind region cells old new: the new list has the old one, and behind it what is made of the cells and
-- those
-- of a list of which the region is
abbrev pub IsCutBehind : Combination → List Address → List Address → List Address → List Address → Type 0
IsCutBehind kind region cells old new = (more : List Address) × (new ≡ old ++ more) × IsCut kind region cells more

-- AreCut kind region old begun size made parts: of each part of the old cells below `size` the part of the new ones
-- with
-- its number is what is made of it and the region
pub record AreCut (kind : Combination) (region old : List Address) (begun : List (ℕ × ℕ)) (size : ℕ)
    (made : List Address) (parts : List (ℕ × ℕ)) : Type 0 where
  pub apart : AreApart size (length made) parts
  pub cut : (n : ℕ) → n < size
      → IsCut kind region (part_of old (get_or begun n (0, 0))) (part_of made (get_or parts n (0, 0)))
