use Rattle.std.proofs.Common.{rules, w32}
use Rattle.std.proofs.lemmas.Int.{to_z-of_z}
use Rattle.h3_command.proofs.run.perform_over_file_and_list.Goals as goal

pub returns-in-GridDisksUnsafe : goal.returns-in-GridDisksUnsafe
returns-in-GridDisksUnsafe g c =
    let ends = rw (to_z-of_z w32 c.in-GridDisksUnsafe.k (search rules)) at c.grid_disks_unsafe.ensures in
    rw c.in-GridDisksUnsafe.is ends

pub returns-in-GridDisksDistancesUnsafe : goal.returns-in-GridDisksDistancesUnsafe
returns-in-GridDisksDistancesUnsafe g c =
    let ends =
    rw (to_z-of_z w32 c.in-GridDisksDistancesUnsafe.k (search rules)) at c.grid_disks_distances_unsafe.ensures in
    rw c.in-GridDisksDistancesUnsafe.is ends

pub returns-in-GridRingsUnsafe : goal.returns-in-GridRingsUnsafe
returns-in-GridRingsUnsafe g c =
    let ends = rw (to_z-of_z w32 c.in-GridRingsUnsafe.k (search rules)) at c.grid_rings_unsafe.ensures in
    rw c.in-GridRingsUnsafe.is ends
