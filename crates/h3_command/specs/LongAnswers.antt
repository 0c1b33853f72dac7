-- Answers of any number of lines to the index of a line: the children of its cell, or its disk or ring over the links
-- of a base cell table. An answer is all of its lines, or an error and none of them: a walk that is refused on its way
-- has its error alone here.
use Rattle.std.specs.Prelude.{ℕ, ℤ, List, Option, None, Some, Result, Ok, Err}
use Rattle.std.specs.List.{flat_map}
use Rattle.h3_index.specs.declared.error.H3Error.{H3Error}
use Rattle.h3_table.specs.Links.{Links}
use Rattle.h3_lines.specs.Answer.{Answer, cell_lines, printed, ring_line_by, whole_items}
use Rattle.h3_functions.specs.Hierarchy.{cell_to_children}
use Rattle.h3_functions.specs.Inspection.{for_value}
use Rattle.h3_functions.specs.Walks.{Walk, grid_disk_distances_unsafe, grid_disk_unsafe, grid_ring_unsafe}
use Rattle.h3_requests.specs.declared.rows.RowOptions.{RowOptions}
use Rattle.h3_command.specs.Required.{cell_given, index_given}

-- children_for res index: a line for each child of the cell at the resolution
abbrev pub children_for : ℤ → Option ℕ → Answer
children_for res index = printed cell_lines (for_value (λ h. cell_to_children h res) (index_given index))

-- ---- walks

-- whole_walk walk: all items of a walk, or its error: that of a step that is refused, or with which it does not begin
abbrev pub whole_walk : {A : Type 0} → Walk A → Result (List A) H3Error
whole_walk (Ok items) = whole_items items
whole_walk (Err e) = Err e

-- disk_for link k index: a line for each cell of the cell's disk
abbrev pub disk_for : Links → ℤ → Option ℕ → Answer
disk_for link k index = printed cell_lines (for_value (λ c. whole_walk (grid_disk_unsafe link c k)) (cell_given index))

-- ring_for link k index: a line for each cell of its ring
abbrev pub ring_for : Links → ℤ → Option ℕ → Answer
ring_for link k index = printed cell_lines (for_value (λ c. whole_walk (grid_ring_unsafe link c k)) (cell_given index))

-- disk_distances_for between link k index: a line for each cell of its disk with its ring, and a byte between them
abbrev pub disk_distances_for : ℕ → Links → ℤ → Option ℕ → Answer
disk_distances_for between link k index =
    printed (flat_map (ring_line_by between))
    (for_value (λ c. whole_walk (grid_disk_distances_unsafe link c k)) (cell_given index))

-- between_parts rows: the byte between a cell and its ring: a space on a bare line, and beside a row its separator
abbrev pub between_parts : Option RowOptions → ℕ
between_parts None = 32
between_parts (Some options) = options.separator
