use Rattle.std.proofs.Common.{◌∙◌, length, sym, ap, arith, rules, w32}
use Rattle.std.proofs.lemmas.Int.{to_z-of_z}
use Rattle.h3_functions.specs.Bases.{base_cells_left}
use Rattle.h3_functions.proofs.BasesLaws.{base_cells-done, base_cells-next}
use Rattle.h3_functions.proofs.bases.BaseCellsIterator.next.Goals as goal

pub returns-in_err-cell-clause-steps : goal.returns-in_err-cell-clause-steps
unfolding base_cells_left
returns-in_err-cell-clause-steps c =
    let is =
    rw (to_z-of_z w32 c.from.result (rw c.from.ensures (search rules)), c.from.ensures) at c.res0_cell.ensures in
    let none =
    base_cells-done c.args.self.now.next c.res0_cell.result is (sym c.ok.ensures.value ∙ c.in_err-cell.was) in
    rw c.from_residual.ensures (none, none)

pub overflow_add-self : goal.overflow_add-self
overflow_add-self c =
    let is =
    rw (to_z-of_z w32 c.from.result (rw c.from.ensures (search rules)), c.from.ensures) at c.res0_cell.ensures in
    let low =
    (base_cells-next c.args.self.now.next c.res0_cell.result c.in_ok-cell.cell is
    (sym c.ok.ensures.value ∙ c.in_ok-cell.was)).0 in
    omega (arith, low)

pub returns-clause-steps : goal.returns-clause-steps
unfolding base_cells_left
returns-clause-steps c =
    let is =
    rw (to_z-of_z w32 c.from.result (rw c.from.ensures (search rules)), c.from.ensures) at c.res0_cell.ensures in
    (base_cells-next c.args.self.now.next c.res0_cell.result c.in_ok-cell.cell is
    (sym c.ok.ensures.value ∙ c.in_ok-cell.was)).1

pub returns-clause-goes : goal.returns-clause-goes
returns-clause-goes c =
    let fewer = ap length (returns-clause-steps c) in
    record { on = λ _. (tt, tt, omega (arith, fewer)); keeps = tt; rests = λ _. tt }
