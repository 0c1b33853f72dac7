use Rattle.std.proofs.Common.{◌≡◌, ◌∷◌, ℤ, Ok, ap, arith, unsigned_abs, to_z, of_z, w32, ◌∙◌}
use Rattle.std.proofs.lemmas.Int.{ints}
use Rattle.h3_table.specs.BaseTable.{link_of}
use Rattle.h3_grid.specs.Disks.{disk_left}
use Rattle.h3_grid.specs.Steps.{state}
use Rattle.h3_grid.specs.Walks.{disk, followed}
use Rattle.h3_grid.proofs.MoveLaws.{left-all}
use Rattle.h3_grid.specs.Counters.{moves_left}
use Rattle.h3_grid.proofs.disks.Disk.new.Goals as goal

pub returns-clause-items : goal.returns-clause-items
unfolding disk_left disk
returns-clause-items c =
    let same : to_z w32 (of_z w32 c.args.k) ≡ c.args.k = omega (arith, ints) in
    ap (λ l. Ok (c.args.cell, 0) ∷ followed (link_of c.args.table.now) (state c.args.cell 0) l)
    (ap (λ (k : ℤ). moves_left 0 0 0 (unsigned_abs k)) same ∙ left-all (unsigned_abs c.args.k))

pub returns-then-k-lt0-clause-whole : goal.returns-then-k-lt0-clause-whole
returns-then-k-lt0-clause-whole c =
    let same : to_z w32 (of_z w32 c.args.k) ≡ c.args.k = omega (arith, ints) in
    rw same at c.disk_is_lawful.ensures

pub returns-then-is_pentagon-clause-whole : goal.returns-then-is_pentagon-clause-whole
returns-then-is_pentagon-clause-whole c =
    let same : to_z w32 (of_z w32 c.args.k) ≡ c.args.k = omega (arith, ints) in
    rw same at c.disk_is_lawful.ensures

pub returns-clause-whole : goal.returns-clause-whole
returns-clause-whole c =
    let same : to_z w32 (of_z w32 c.args.k) ≡ c.args.k = omega (arith, ints) in
    rw same at c.disk_is_lawful.ensures

pub returns-then-k-lt0-clause-size : goal.returns-then-k-lt0-clause-size
returns-then-k-lt0-clause-size c =
    c.disks_are_spirals.ensures.sizes (link_of c.args.table.now) c.args.cell (unsigned_abs c.args.k)

pub returns-then-is_pentagon-clause-size : goal.returns-then-is_pentagon-clause-size
returns-then-is_pentagon-clause-size c =
    c.disks_are_spirals.ensures.sizes (link_of c.args.table.now) c.args.cell (unsigned_abs c.args.k)

pub returns-clause-size : goal.returns-clause-size
returns-clause-size c = c.disks_are_spirals.ensures.sizes (link_of c.args.table.now) c.args.cell (unsigned_abs c.args.k)
