-- The lines of the descendants of a cell.
use Rattle.std.specs.List.{flat_map}
use Rattle.std.proofs.Common.{◌≡◌, ◌≤◌, ◌<◌, nat_eq, Bool, true, false, if◌then◌else◌, map, eqb-true, ℕ, ℤ, Option, Result, Ok, Err, ◌-◌, List, [], ◌∷◌, ◌++◌, length, append-nil, arith, refl, ap, sym, ◌∙◌}
use Rattle.std.specs.Prelude.{unsigned_abs}
use Rattle.std.proofs.lemmas.Bool.{eqb-false}
use Rattle.std.proofs.lemmas.Grind.{flat_map-append}
use Rattle.std.proofs.lemmas.List.Folds.{flat_map-map}
use Rattle.h3_index.specs.Cell.{Address, resolution}
use Rattle.h3_index.specs.Descendants.{children, descendants}
use Rattle.h3_index.specs.Paths.{paths}
use Rattle.h3_index.specs.declared.error.H3Error.{H3Error}
use Rattle.h3_set.specs.Uncompaction.{uncompacted}
use Rattle.h3_tree.specs.Refusals.{descent_refusal}
use Rattle.h3_tree.specs.SiblingGroups.{DescendantsAreChildren}
use Rattle.h3_lines.specs.Answer.{cell_line, cell_lines, children_lines}
use Rattle.h3_functions.specs.Hierarchy.{cell_to_children, unless}
use Rattle.h3_functions.specs.Inspection.{cell_from, for_value}
use Rattle.h3_command.specs.Required.{cell_given, index_given}
use Rattle.h3_command.specs.Long.{child_item_lines, items_below}
use Rattle.h3_command.specs.declared.long.ChildItem.TheVariants.{Group, One}

-- at its own resolution a cell has itself
own : (c : Address) (r : ℕ) → r ≡ length c.digits → descendants c r ≡ c ∷ []
unfolding descendants paths
own c r is =
    let none : r - length c.digits ≡ 0 = omega arith in
    rw none (ap (λ x. x ∷ []) (ap {B = Address} (λ ds. record { base = c.base; digits = ds }) (append-nil c.digits)))

pub own_line : (c : Address) (r : ℕ) → r ≡ length c.digits → cell_lines (descendants c r) ≡ cell_line c
own_line c r is = ap cell_lines (own c r is) ∙ append-nil (cell_line c)

-- those of one parent after those of another
pub group_lines : (parents : List Address) → cell_lines (flat_map children parents) ≡ flat_map children_lines parents
group_lines [] = refl
group_lines (p ∷ ps) =
    flat_map-append cell_line (children p) (flat_map children ps) ∙ ap (λ l. children_lines p ++ l) (group_lines ps)

-- ---- the items of several cells

-- those of a cell at a resolution from its own on
pub item_lines : (r : ℕ) (c : Address) → length c.digits ≤ r → DescendantsAreChildren
    → flat_map child_item_lines (items_below r c) ≡ cell_lines (descendants c r)
item_lines r c fits level = by_test (nat_eq r (length c.digits)) refl
  where
    by_test : (b : Bool) → nat_eq r (length c.digits) ≡ b
        → flat_map child_item_lines (if b then One c ∷ [] else map (λ parent. Group parent) (descendants c (r - 1)))
        ≡ cell_lines (descendants c r)
    by_test true is = append-nil (cell_line c) ∙ sym (own_line c r (eqb-true _ _ is))
    by_test false is =
        let finer : length c.digits < r = omega (arith, fits, eqb-false _ _ is) in
        flat_map-map child_item_lines (λ parent. Group parent) (descendants c (r - 1))
        ∙ sym (group_lines (descendants c (r - 1))) ∙ ap cell_lines (level c r finer)

-- those below each cell of a list
pub uncompacted_lines : (r : ℕ) (cells : List Address)
    → flat_map (λ c. cell_lines (descendants c r)) cells ≡ cell_lines (uncompacted cells r)
uncompacted_lines r [] = refl
uncompacted_lines r (c ∷ cs) =
    ap (λ l. cell_lines (descendants c r) ++ l) (uncompacted_lines r cs)
    ∙ sym (flat_map-append cell_line (descendants c r) (uncompacted cs r))

-- ---- what is asked of the index of a word

of_word : (word : Result ℕ H3Error) (res : ℤ)
    → for_value (λ c. unless (descent_refusal (resolution c) res) (descendants c (unsigned_abs res)))
    (for_value cell_from word)
    ≡ for_value (λ h. cell_to_children h res) word
of_word (Ok h) res = refl
of_word (Err e) res = refl

pub no_cell : (index : Option ℕ) (res : ℤ) (e : H3Error) → cell_given index ≡ Err e
    → for_value (λ h. cell_to_children h res) (index_given index) ≡ Err e
no_cell index res e found =
    sym (of_word (index_given index) res)
    ∙ ap (for_value (λ c. unless (descent_refusal (resolution c) res) (descendants c (unsigned_abs res)))) found

pub of_cell : (index : Option ℕ) (res : ℤ) (cell : Address) → cell_given index ≡ Ok cell
    → for_value (λ h. cell_to_children h res) (index_given index)
    ≡ unless (descent_refusal (resolution cell) res) (descendants cell (unsigned_abs res))
of_cell index res cell found =
    sym (of_word (index_given index) res)
    ∙ ap (for_value (λ c. unless (descent_refusal (resolution c) res) (descendants c (unsigned_abs res)))) found
