use Rattle.std.proofs.Common.{w32, rules, of_z, to_z, ◌≡◌, ◌∙◌, ℤ, length, min, None, Ok, ap, subst}
use Rattle.std.specs.Prelude.{unsigned_abs}
use Rattle.std.proofs.lemmas.Int.{to_z-of_z}
use Rattle.std.proofs.lemmas.Iterator.Consumers.{YieldsList-from_first}
use Rattle.h3_index.specs.Cell.{Address}
use Rattle.h3_table.specs.BaseTable.{link_of}
use Rattle.h3_table.specs.Links.{Links}
use Rattle.h3_grid.specs.Disks.{disk_left}
use Rattle.h3_grid.specs.Refusals.{disk_refusal}
use Rattle.h3_grid.specs.Walks.{disk}
use Rattle.h3_functions.specs.Hierarchy.{unless}
use Rattle.h3_c.specs.Walks.{cells_over, rings_over, walk_code}
use Rattle.h3_c.proofs.walks.put_distances.Goals as goal

answered : (link : Links) (cell : Address) (k read : ℤ) → read ≡ k → None ≡ disk_refusal cell read
    → Ok (disk link cell (unsigned_abs read)) ≡ unless (disk_refusal cell k) (disk link cell (unsigned_abs k))
answered link cell k read same none =
    subst (λ (z : ℤ). Ok (disk link cell (unsigned_abs read))
    ≡ unless (disk_refusal cell z) (disk link cell (unsigned_abs z))) same
    (ap (λ o. unless o (disk link cell (unsigned_abs read))) none)

pub returns-in-Ok-clause-code : goal.returns-in-Ok-clause-code
returns-in-Ok-clause-code c =
    let is =
    answered (link_of c.args.table.now) c.args.cell c.args.k (to_z w32 (of_z w32 c.args.k))
    (to_z-of_z w32 c.args.k (search rules)) c.in-Ok.ensures.refused in
    c.put_rings.ensures.code _ (YieldsList-from_first (λ x. x) disk_left _ c.in-Ok.ensures.items).runs
    ∙ ap (λ l. walk_code l (min (length c.args.out.now) (length c.args.rings.now))) is

pub returns-in-Ok-clause-cells : goal.returns-in-Ok-clause-cells
returns-in-Ok-clause-cells c =
    let is =
    answered (link_of c.args.table.now) c.args.cell c.args.k (to_z w32 (of_z w32 c.args.k))
    (to_z-of_z w32 c.args.k (search rules)) c.in-Ok.ensures.refused in
    c.put_rings.ensures.cells _ (YieldsList-from_first (λ x. x) disk_left _ c.in-Ok.ensures.items).runs
    ∙ ap (λ l. cells_over l (min (length c.args.out.now) (length c.args.rings.now)) c.args.out.now) is

pub returns-in-Ok-clause-rings : goal.returns-in-Ok-clause-rings
returns-in-Ok-clause-rings c =
    let is =
    answered (link_of c.args.table.now) c.args.cell c.args.k (to_z w32 (of_z w32 c.args.k))
    (to_z-of_z w32 c.args.k (search rules)) c.in-Ok.ensures.refused in
    c.put_rings.ensures.rings _ (YieldsList-from_first (λ x. x) disk_left _ c.in-Ok.ensures.items).runs
    ∙ ap (λ l. rings_over l (min (length c.args.out.now) (length c.args.rings.now)) c.args.rings.now) is
