use Rattle.std.proofs.Common.{◌∙◌, length, sym, ap, arith, rules, w32}
use Rattle.std.proofs.lemmas.Int.{to_z-of_z}
use Rattle.h3_functions.specs.Bases.{pentagons_left}
use Rattle.h3_functions.proofs.BasesLaws.{pentagons-done, pentagons-next}
use Rattle.h3_functions.proofs.bases.PentagonsIterator.next.Goals as goal

pub returns-in_err-cell-clause-steps : goal.returns-in_err-cell-clause-steps
unfolding pentagons_left
returns-in_err-cell-clause-steps c =
    let is =
    rw (
      to_z-of_z w32 c.from.result (rw c.from.ensures (search rules)),
      c.from.ensures,
      to_z-of_z w32 c.from-2.result (rw c.from-2.ensures (search rules)),
      c.from-2.ensures,
    ) at c.pentagon.ensures.nth in
    let none =
    pentagons-done c.args.self.now.res c.args.self.now.next c.pentagon.result (search rules) is
    (sym c.ok.ensures.value ∙ c.in_err-cell.was) in
    rw c.from_residual.ensures (none, none)

pub overflow_add-self : goal.overflow_add-self
overflow_add-self c =
    let is =
    rw (
      to_z-of_z w32 c.from.result (rw c.from.ensures (search rules)),
      c.from.ensures,
      to_z-of_z w32 c.from-2.result (rw c.from-2.ensures (search rules)),
      c.from-2.ensures,
    ) at c.pentagon.ensures.nth in
    let low =
    (pentagons-next c.args.self.now.res c.args.self.now.next c.pentagon.result c.in_ok-cell.cell (search rules) is
    (sym c.ok.ensures.value ∙ c.in_ok-cell.was)).0 in
    omega (arith, low)

pub returns-clause-steps : goal.returns-clause-steps
unfolding pentagons_left
returns-clause-steps c =
    let is =
    rw (
      to_z-of_z w32 c.from.result (rw c.from.ensures (search rules)),
      c.from.ensures,
      to_z-of_z w32 c.from-2.result (rw c.from-2.ensures (search rules)),
      c.from-2.ensures,
    ) at c.pentagon.ensures.nth in
    (pentagons-next c.args.self.now.res c.args.self.now.next c.pentagon.result c.in_ok-cell.cell (search rules) is
    (sym c.ok.ensures.value ∙ c.in_ok-cell.was)).1

pub returns-clause-goes : goal.returns-clause-goes
returns-clause-goes c =
    let fewer = ap length (returns-clause-steps c) in
    record { on = λ _. (tt, tt, omega (arith, fewer)); keeps = tt; rests = λ _. tt }
