-- The disks and rings of H3's grid traversal functions over the links of a base cell table: the cells in the order in
-- which they are walked, and then an error where a step is refused; or the error of a walk that is refused before it
-- begins. Which walks are refused is this project's own.
use Rattle.std.specs.Prelude.{ℕ, ℤ, List, map, unsigned_abs, Result, Ok, Err}
use Rattle.h3_index.specs.Cell.{Address}
use Rattle.h3_index.specs.declared.error.H3Error.{H3Error}
use Rattle.h3_table.specs.Links.{Links}
use Rattle.h3_grid.specs.Refusals.{disk_refusal, ring_refusal}
use Rattle.h3_grid.specs.Walks.{disk, ring}
use Rattle.h3_functions.specs.Hierarchy.{unless}

-- the items of a walk, or the error of one that is refused before it begins
abbrev pub Walk : Type 0 → Type 0
Walk A = Result (List (Result A H3Error)) H3Error

-- grid_disk_distances_unsafe link c k: the same, each cell with its ring
abbrev pub grid_disk_distances_unsafe : Links → Address → ℤ → Walk (Address × ℕ)
grid_disk_distances_unsafe link c k = unless (disk_refusal c k) (disk link c (unsigned_abs k))

-- a cell without its ring
abbrev pub without_ring : Result (Address × ℕ) H3Error → Result Address H3Error
without_ring (Ok item) = Ok item.0
without_ring (Err e) = Err e

-- grid_disk_unsafe link c k: the cells of the disk, and the error where a step is refused; or the error of one that is
-- refused before it begins
abbrev pub grid_disk_unsafe : Links → Address → ℤ → Walk Address
grid_disk_unsafe link c k = unless (disk_refusal c k) (map without_ring (disk link c (unsigned_abs k)))

-- grid_ring_unsafe link c k: the same of a ring
abbrev pub grid_ring_unsafe : Links → Address → ℤ → Walk Address
grid_ring_unsafe link c k = unless (ring_refusal c k) (ring link c (unsigned_abs k))
