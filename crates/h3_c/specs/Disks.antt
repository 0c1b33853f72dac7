-- The disks of a column of cells, one after another, in C's memory.
use Rattle.std.specs.Prelude.{ℕ, ℤ, suc, ◌-◌, ◌==◌, List, [], ◌∷◌, map, length, Result, Ok, Err, if◌then◌else◌}
use Rattle.std.specs.List.{flat_map}
use Rattle.h3_index.specs.Cell.{Address}
use Rattle.h3_index.specs.declared.error.H3Error.{H3Error}
use Rattle.h3_functions.specs.Walks.{Walk}
use Rattle.h3_c.specs.Tables.{grid_disk_unsafe}
use Rattle.h3_c.specs.Walks.{items_code}
use Rattle.h3_c.specs.declared.tables.Table.{Table}

-- walk_items walk: the items of a walk; of one that is refused before it begins the error alone
abbrev pub walk_items : {A : Type 0} → Walk A → List (Result A H3Error)
walk_items (Ok items) = items
walk_items (Err e) = Err e ∷ []

-- disks table cells k: the items of the disk of each cell
abbrev pub disks : Table → List ℕ → ℤ → List (List (Result Address H3Error))
disks table cells k = map (λ h. walk_items (grid_disk_unsafe table h k)) cells

-- all_disks table cells k: the items of the disks of the cells, one disk's after another's, as those of one walk, which
-- its first error ends
abbrev pub all_disks : Table → List ℕ → ℤ → List (Result Address H3Error)
all_disks table cells k = flat_map (λ h. walk_items (grid_disk_unsafe table h k)) cells

-- whole_walks room walks: how many of the walks, from the first one on, have no error, and room one after another
unfoldable pub whole_walks : {A : Type 0} → ℕ → List (List (Result A H3Error)) → ℕ
whole_walks room [] = 0
whole_walks room (items ∷ rest) = if items_code items room == 0 then suc (whole_walks (room - length items) rest) else 0
