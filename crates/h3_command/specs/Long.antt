-- What the iterators over the lines of an answer have still to give. Private contracts and proofs alone cite this file.
use Rattle.std.specs.Prelude.{ℕ, ◌-◌, nat_eq, if◌then◌else◌, List, [], ◌∷◌, map, Option, None, Some, Result, Ok, Err}
use Rattle.h3_index.specs.Cell.{Address, number_of, resolution}
use Rattle.h3_index.specs.Descendants.{children, descendants}
use Rattle.h3_index.specs.Text.{text_of}
use Rattle.h3_index.specs.declared.error.H3Error.{H3Error}
use Rattle.h3_grid.specs.Disks.{disk_left}
use Rattle.h3_grid.specs.Rings.{ring_left}
use Rattle.h3_lines.specs.Answer.{AreLines, cell_line, children_lines}
use Rattle.h3_lines.specs.Line.{cells_are_lines, last_is_line}
use Rattle.h3_tree.specs.SiblingGroups.{parents_left}
use Rattle.h3_command.specs.declared.long.ChildItem.{ChildItem}
use Rattle.h3_command.specs.declared.long.ChildItem.TheVariants.{Group, One}
use Rattle.h3_command.specs.declared.long.ChildLines.{ChildLines}
use Rattle.h3_command.specs.declared.long.ChildLines.TheVariants.{Below, Own}
use Rattle.h3_lines.specs.declared.line.RingCell.{RingCell}
use Rattle.h3_command.specs.declared.long.DiskLines.{DiskLines}
use Rattle.h3_command.specs.declared.long.DistanceLines.{DistanceLines}
use Rattle.h3_command.specs.declared.long.RingLines.{RingLines}

-- ---- children

abbrev pub child_item_lines : ChildItem → List ℕ
child_item_lines (One cell) = cell_line cell
child_item_lines (Group siblings) = children_lines siblings

pub child_items_are_lines : (item : ChildItem) → AreLines (child_item_lines item)
child_items_are_lines (One cell) = last_is_line (text_of (number_of cell))
child_items_are_lines (Group siblings) = cells_are_lines (children siblings)

-- the cell that is left, if it is
abbrev pub own_left : Option Address → List ChildItem
own_left None = []
own_left (Some cell) = One cell ∷ []

abbrev pub child_lines_left : ChildLines → List ChildItem
child_lines_left (Own cell) = own_left cell
child_lines_left (Below groups) = map (λ parent. Group parent) (parents_left groups)

-- those below a cell at a resolution
abbrev pub items_below : ℕ → Address → List ChildItem
items_below r cell =
    if nat_eq r (resolution cell) then One cell ∷ [] else map (λ parent. Group parent) (descendants cell (r - 1))

-- ---- walks

-- the items before the first error
abbrev pub good : {A : Type 0} → List (Result A H3Error) → List A
good [] = []
good (Ok item ∷ items) = item ∷ good items
good (Err e ∷ items) = []

abbrev pub disk_lines_left : DiskLines → List Address
disk_lines_left s = map (λ item. item.0) (good (disk_left s.walk))

-- a cell with its ring, and the byte between them
abbrev pub ring_cell : ℕ → Address × ℕ → RingCell
ring_cell between item = record { cell = item.0; between = between; ring = item.1 }

abbrev pub distance_lines_left : DistanceLines → List RingCell
distance_lines_left s = map (ring_cell s.between) (good (disk_left s.walk))

abbrev pub ring_lines_left : RingLines → List Address
ring_lines_left s = good (ring_left s.walk)
