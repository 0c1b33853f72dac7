use Rattle.std.proofs.Common.{w32, rules, of_z, to_z, ◌≡◌, ◌∙◌, ℕ, ℤ, Ok, ap, subst}
use Rattle.std.specs.Prelude.{unsigned_abs}
use Rattle.std.specs.Iterator.{YieldsFirst}
use Rattle.std.proofs.lemmas.Int.{to_z-of_z}
use Rattle.h3_index.specs.Cell.{Address, resolution}
use Rattle.h3_index.specs.Descendants.{descendants}
use Rattle.h3_tree.specs.Children.{children_left}
use Rattle.h3_tree.specs.Refusals.{descent_refusal}
use Rattle.h3_functions.specs.Hierarchy.{cell_to_children, unless}
use Rattle.h3_functions.specs.Inspection.{cell_from, for_value}
use Rattle.h3_functions.specs.Items.{Lists}
use Rattle.h3_functions.proofs.Listed.{lists_first}
use Rattle.h3_functions.proofs.hierarchy.cell_to_children.Goals as goal

-- the descendants of the cell with the index
listed : (index : ℕ) (res read : ℤ) (cell : Address) → read ≡ res → Ok cell ≡ cell_from index
    → unless (descent_refusal (resolution cell) read) (descendants cell (unsigned_abs read))
    ≡ cell_to_children index res
listed index res read cell same is =
    ap (λ (z : ℤ). unless (descent_refusal (resolution cell) z) (descendants cell (unsigned_abs z))) same
    ∙ ap (for_value (λ c. unless (descent_refusal (resolution c) res) (descendants c (unsigned_abs res)))) is

pub returns : goal.returns
returns c =
    let read : ℤ = to_z w32 (of_z w32 c.args.res) in
    subst (Lists (YieldsFirst children_left) c.children.result) (listed c.args.index c.args.res read c.in_ok-cell.cell
    (to_z-of_z w32 c.args.res (search rules)) c.in_ok-cell.ensures)
    (lists_first children_left c.children.result _ _ c.children.ensures.refused c.children.ensures.list)
