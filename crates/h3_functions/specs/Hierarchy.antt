-- What H3's hierarchy functions return for an index.
use Rattle.std.specs.Prelude.{ℕ, ℤ, List, length, slice_get, unsigned_abs, unwrap_or, Option, None, Some, Result, Ok, Err}
use Rattle.h3_index.specs.Cell.{Address, resolution}
use Rattle.h3_index.specs.Descendants.{center_descendant, ancestor_at, descendants}
use Rattle.h3_index.specs.declared.error.H3Error.{H3Error}
use Rattle.h3_tree.specs.LastChild.{last_at}
use Rattle.h3_tree.specs.Positions.{position_under}
use Rattle.h3_tree.specs.Refusals.{descent_refusal, parent_refusal, position_refusal}
use Rattle.h3_functions.specs.Inspection.{cell_from, for_value}

-- the value, unless there is an error
abbrev pub unless : {A : Type 0} → Option H3Error → A → Result A H3Error
unless None value = Ok value
unless (Some e) value = Err e

-- cell_to_parent index r: the ancestor at a resolution, or the error
abbrev pub cell_to_parent : ℕ → ℤ → Result Address H3Error
cell_to_parent index res =
    for_value (λ c. unless (parent_refusal (resolution c) res) (ancestor_at c (unsigned_abs res))) (cell_from index)

-- cell_to_center_child index r: the descendant whose further digits are 0, or the error
abbrev pub cell_to_center_child : ℕ → ℤ → Result Address H3Error
cell_to_center_child index res =
    for_value (λ c. unless (descent_refusal (resolution c) res) (center_descendant c (unsigned_abs res)))
    (cell_from index)

-- cell_to_last_child index r: the descendant whose further digits are 6, or the error
abbrev pub cell_to_last_child : ℕ → ℤ → Result Address H3Error
cell_to_last_child index res =
    for_value (λ c. unless (descent_refusal (resolution c) res) (last_at c (unsigned_abs res))) (cell_from index)

-- cell_to_children index r: the descendants, or the error
abbrev pub cell_to_children : ℕ → ℤ → Result (List Address) H3Error
cell_to_children index res =
    for_value (λ c. unless (descent_refusal (resolution c) res) (descendants c (unsigned_abs res))) (cell_from index)

-- cell_to_children_size index r: their number, or the error
abbrev pub cell_to_children_size : ℕ → ℤ → Result ℕ H3Error
cell_to_children_size index res =
    for_value (λ c. unless (descent_refusal (resolution c) res) (length (descendants c (unsigned_abs res))))
    (cell_from index)

-- cell_to_child_pos index r: the cell's position under its ancestor, or the error
abbrev pub cell_to_child_pos : ℕ → ℤ → Result ℕ H3Error
cell_to_child_pos index res =
    for_value (λ c. unless (parent_refusal (resolution c) res) (position_under (ancestor_at c (unsigned_abs res)) c))
    (cell_from index)

-- child_pos_to_cell n index r: the descendant at a position, or the error
abbrev pub child_pos_to_cell : ℕ → ℕ → ℤ → Result Address H3Error
child_pos_to_cell position index res =
    for_value (λ c. unless (position_refusal c res position)
    (unwrap_or (slice_get (descendants c (unsigned_abs res)) position) c)) (cell_from index)
