use Rattle.std.proofs.Common.{w32, rules, of_z, to_z, ◌≡◌, ◌∙◌, ℤ, length, None, Ok, ap, subst}
use Rattle.std.specs.Prelude.{unsigned_abs}
use Rattle.std.proofs.lemmas.Int.{to_z-of_z}
use Rattle.std.proofs.lemmas.Iterator.Consumers.{YieldsList-from_first}
use Rattle.h3_index.specs.Cell.{Address}
use Rattle.h3_table.specs.BaseTable.{link_of}
use Rattle.h3_table.specs.Links.{Links}
use Rattle.h3_grid.specs.Refusals.{ring_refusal}
use Rattle.h3_grid.specs.Rings.{ring_left}
use Rattle.h3_grid.specs.Walks.{ring}
use Rattle.h3_functions.specs.Hierarchy.{unless}
use Rattle.h3_c.specs.Walks.{walk_code, walk_over}
use Rattle.h3_c.proofs.walks.put_ring.Goals as goal

answered : (link : Links) (cell : Address) (k read : ℤ) → read ≡ k → None ≡ ring_refusal cell read
    → Ok (ring link cell (unsigned_abs read)) ≡ unless (ring_refusal cell k) (ring link cell (unsigned_abs k))
answered link cell k read same none =
    subst (λ (z : ℤ). Ok (ring link cell (unsigned_abs read))
    ≡ unless (ring_refusal cell z) (ring link cell (unsigned_abs z))) same
    (ap (λ o. unless o (ring link cell (unsigned_abs read))) none)

pub returns-in-Ok-clause-code : goal.returns-in-Ok-clause-code
returns-in-Ok-clause-code c =
    let is =
    answered (link_of c.args.table.now) c.args.cell c.args.k (to_z w32 (of_z w32 c.args.k))
    (to_z-of_z w32 c.args.k (search rules)) c.in-Ok.ensures.refused in
    c.put_walk.ensures.code _ (YieldsList-from_first (λ x. x) ring_left _ c.in-Ok.ensures.items).runs
    ∙ ap (λ l. walk_code l (length c.args.out.now)) is

pub returns-in-Ok-clause-put : goal.returns-in-Ok-clause-put
returns-in-Ok-clause-put c =
    let is =
    answered (link_of c.args.table.now) c.args.cell c.args.k (to_z w32 (of_z w32 c.args.k))
    (to_z-of_z w32 c.args.k (search rules)) c.in-Ok.ensures.refused in
    c.put_walk.ensures.put _ (YieldsList-from_first (λ x. x) ring_left _ c.in-Ok.ensures.items).runs
    ∙ ap (λ l. walk_over l c.args.out.now) is
