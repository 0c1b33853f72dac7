use Rattle.std.proofs.Common.{w32, rules, of_z, to_z, ℕ, ℤ, ◌≡◌, List, [], Result, Ok, Err, refl, ap, ◌∙◌}
use Rattle.std.proofs.lemmas.Int.{to_z-of_z}
use Rattle.std.specs.Result.{result_unwrap_or}
use Rattle.h3_index.specs.Cell.{Address}
use Rattle.h3_index.specs.declared.error.H3Error.{H3Error}
use Rattle.h3_functions.specs.Hierarchy.{cell_to_children}
use Rattle.h3_c.specs.Descendants.{PutAfter}
use Rattle.h3_c.specs.Lists.{laid_over, list_over}
use Rattle.h3_c.proofs.hierarchy.h3w_cellToChildren.Goals as goal

-- what comes after none stands at the beginning
listed : (r : Result (List Address) H3Error) (old new : List ℕ) → PutAfter 0 (result_unwrap_or r []) old new
    → new ≡ list_over r old
unfolding laid_over
listed (Ok cells) old new put = put [] old refl refl
listed (Err e) old new put = put [] old refl refl

pub returns-in-Ok-Some-clause-list : goal.returns-in-Ok-Some-clause-list
returns-in-Ok-Some-clause-list c =
    let read : ℤ = to_z w32 (of_z w32 c.args.res) in
    listed (cell_to_children c.args.h read) c.args.out.now c.put_children_of.new.out c.put_children_of.ensures.put
    ∙ ap (λ (z : ℤ). list_over (cell_to_children c.args.h z) c.args.out.now) (to_z-of_z w32 c.args.res (search rules))

pub returns-in-Ok-None-clause-list : goal.returns-in-Ok-None-clause-list
returns-in-Ok-None-clause-list c =
    let read : ℤ = to_z w32 (of_z w32 c.args.res) in
    listed (cell_to_children c.args.h read) c.args.out.now c.put_children_of.new.out c.put_children_of.ensures.put
    ∙ ap (λ (z : ℤ). list_over (cell_to_children c.args.h z) c.args.out.now) (to_z-of_z w32 c.args.res (search rules))

pub returns-in-Err-clause-list : goal.returns-in-Err-clause-list
returns-in-Err-clause-list c =
    let read : ℤ = to_z w32 (of_z w32 c.args.res) in
    listed (cell_to_children c.args.h read) c.args.out.now c.put_children_of.new.out c.put_children_of.ensures.put
    ∙ ap (λ (z : ℤ). list_over (cell_to_children c.args.h z) c.args.out.now) (to_z-of_z w32 c.args.res (search rules))
