use Rattle.std.proofs.Common.{w32, rules, of_z, to_z, ◌≡◌, ◌∙◌, ◌+◌, ◌-◌, ◌++◌, ◌∷◌, [], ℤ, Some, length, map, None, Err, sym, ap, subst, append-nil}
use Rattle.std.specs.Prelude.{unsigned_abs}
use Rattle.std.proofs.lemmas.Int.{to_z-of_z}
use Rattle.std.proofs.lemmas.Iterator.Consumers.{YieldsList-from_first}
use Rattle.h3_index.specs.Cell.{Address}
use Rattle.h3_index.specs.declared.error.H3Error.{H3Error}
use Rattle.h3_table.specs.BaseTable.{link_of}
use Rattle.h3_table.specs.Links.{Links}
use Rattle.h3_grid.specs.Refusals.{disk_refusal}
use Rattle.h3_grid.specs.Walks.{disk}
use Rattle.h3_functions.specs.DiskCells.{disk_cells_left}
use Rattle.h3_functions.specs.Hierarchy.{unless}
use Rattle.h3_functions.specs.Walks.{without_ring}
use Rattle.h3_c.specs.Disks.{walk_items}
use Rattle.h3_c.specs.Lists.{indexes, laid_over}
use Rattle.h3_c.specs.Walks.{given, items_code}
use Rattle.h3_c.proofs.disks.put_disk_from.Goals as goal

answered : (link : Links) (cell : Address) (k read : ℤ) → read ≡ k → None ≡ disk_refusal cell read
    → map without_ring (disk link cell (unsigned_abs read))
    ≡ walk_items (unless (disk_refusal cell k) (map without_ring (disk link cell (unsigned_abs k))))
answered link cell k read same none =
    subst (λ (z : ℤ). map without_ring (disk link cell (unsigned_abs read))
    ≡ walk_items (unless (disk_refusal cell z) (map without_ring (disk link cell (unsigned_abs z))))) same
    (ap (λ o. walk_items (unless o (map without_ring (disk link cell (unsigned_abs read))))) none)

refused : (link : Links) (cell : Address) (k read : ℤ) (e : H3Error) → read ≡ k → Some e ≡ disk_refusal cell read
    → Err e ∷ [] ≡ walk_items (unless (disk_refusal cell k) (map without_ring (disk link cell (unsigned_abs k))))
refused link cell k read e same some =
    subst (λ (z : ℤ). Err e ∷ []
    ≡ walk_items (unless (disk_refusal cell z) (map without_ring (disk link cell (unsigned_abs z))))) same
    (ap (λ o. walk_items (unless o (map without_ring (disk link cell (unsigned_abs read))))) some)

pub returns-in-Ok-clause-code : goal.returns-in-Ok-clause-code
returns-in-Ok-clause-code c =
    let is =
    answered (link_of c.args.table.now) c.args.cell c.args.k (to_z w32 (of_z w32 c.args.k))
    (to_z-of_z w32 c.args.k (search rules)) c.in-Ok.ensures.refused in
    c.put_walk_from.ensures.code _
    (YieldsList-from_first (λ x. x) disk_cells_left _ (ap (map without_ring) c.in-Ok.ensures.items)).runs
    ∙ ap (λ l. items_code l (length c.args.out.now - c.args.place)) is

pub returns-in-Ok-clause-end : goal.returns-in-Ok-clause-end
returns-in-Ok-clause-end c none =
    let is =
    answered (link_of c.args.table.now) c.args.cell c.args.k (to_z w32 (of_z w32 c.args.k))
    (to_z-of_z w32 c.args.k (search rules)) c.in-Ok.ensures.refused in
    c.put_walk_from.ensures.end _
    (YieldsList-from_first (λ x. x) disk_cells_left _ (ap (map without_ring) c.in-Ok.ensures.items)).runs none
    ∙ ap (λ l. c.args.place + length l) is

pub returns-in-Ok-clause-put : goal.returns-in-Ok-clause-put
returns-in-Ok-clause-put c before first long begun =
    let is =
    answered (link_of c.args.table.now) c.args.cell c.args.k (to_z w32 (of_z w32 c.args.k))
    (to_z-of_z w32 c.args.k (search rules)) c.in-Ok.ensures.refused in
    c.put_walk_from.ensures.put _ (YieldsList-from_first (λ x. x) disk_cells_left _
    (ap (map without_ring) c.in-Ok.ensures.items)).runs before first long begun
    ∙ ap (λ l. laid_over (indexes (before ++ given l)) first) is

pub returns-in-Err-clause-code : goal.returns-in-Err-clause-code
unfolding items_code
returns-in-Err-clause-code c =
    let is =
    refused (link_of c.args.table.now) c.args.cell c.args.k (to_z w32 (of_z w32 c.args.k)) c.in-Err.error
    (to_z-of_z w32 c.args.k (search rules)) c.in-Err.ensures.refused in
    c.from.ensures ∙ c.number.ensures ∙ ap (λ l. items_code l (length c.args.out.now - c.args.place)) is

pub returns-in-Err-clause-put : goal.returns-in-Err-clause-put
unfolding given
returns-in-Err-clause-put c before first long begun =
    let is =
    refused (link_of c.args.table.now) c.args.cell c.args.k (to_z w32 (of_z w32 c.args.k)) c.in-Err.error
    (to_z-of_z w32 c.args.k (search rules)) c.in-Err.ensures.refused in
    begun ∙ ap (λ l. laid_over (indexes l) first) (sym (append-nil before))
    ∙ ap (λ l. laid_over (indexes (before ++ given l)) first) is
