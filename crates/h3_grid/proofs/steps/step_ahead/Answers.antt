use Rattle.std.proofs.Common.{ℕ, ◌≡◌, ◌+◌, Some, None, arith, ap, sym, ◌∙◌, subst}
use Rattle.h3_directions.specs.declared.direction.Direction.{Direction}
use Rattle.h3_directions.specs.Direction.{turned}
use Rattle.h3_table.specs.BaseTable.{link_of}
use Rattle.h3_lattice.specs.Moved.{IsSum}
use Rattle.h3_grid.specs.Steps.{state}
use Rattle.h3_grid.proofs.StepLaws.{crossed_none, crossed_some, same_cell, step_from_sum}
use Rattle.h3_grid.proofs.steps.step_ahead.Goals as goal

pub returns-in-Inside-clause-leads : goal.returns-in-Inside-clause-leads
returns-in-Inside-clause-leads c = λ d ahead.
    let s = state c.args.cell c.args.rot in
    (c.steps_are_found.ensures (link_of c.args.table.now) s d _).0
    (step_from_sum _ s d None c.in-Inside.moved.digits _ c.requires.hexagon
    (subst (λ (e : Direction). IsSum c.args.cell.digits e None c.in-Inside.moved.digits) ahead c.in-Inside.ensures.1)
    (ap (λ a. Some (state a c.args.rot)) (same_cell c.in-Inside.moved c.args.cell.base c.in-Inside.ensures.0)))

pub returns-then-is_pentagon_base-clause-ends : goal.returns-then-is_pentagon_base-clause-ends
returns-then-is_pentagon_base-clause-ends c = λ d ahead.
    let at : c.link-base.result ≡ link_of c.args.table.now c.args.cell.base c.in-Across.border =
    c.link-base.ensures.is ∙ ap (λ b. link_of c.args.table.now b c.in-Across.border) c.base_cell.ensures.number in
    (c.steps_are_found.ensures (link_of c.args.table.now) (state c.args.cell c.args.rot) d None).0
    (step_from_sum _ (state c.args.cell c.args.rot) d (Some c.in-Across.border) c.in-Across.digits _ c.requires.hexagon
    (subst (λ (e : Direction). IsSum c.args.cell.digits e (Some c.in-Across.border) c.in-Across.digits) ahead
    c.in-Across.ensures.0)
    (crossed_none (link_of c.args.table.now c.args.cell.base c.in-Across.border) c.link-base.result.0 c.args.rot
    c.in-Across.digits (ap (λ (l : ℕ × ℕ). l.0) at) (sym c.is_pentagon_base.ensures ∙ c.if-is_pentagon_base.true)))

pub returns-else-is_pentagon_base-clause-leads : goal.returns-else-is_pentagon_base-clause-leads
returns-else-is_pentagon_base-clause-leads c = λ d ahead.
    let at : c.link-base.result ≡ link_of c.args.table.now c.args.cell.base c.in-Across.border =
    c.link-base.ensures.is ∙ ap (λ b. link_of c.args.table.now b c.in-Across.border) c.base_cell.ensures.number in
    (c.steps_are_found.ensures (link_of c.args.table.now) (state c.args.cell c.args.rot) d _).0
    (step_from_sum _ (state c.args.cell c.args.rot) d (Some c.in-Across.border) c.in-Across.digits _ c.requires.hexagon
    (subst (λ (e : Direction). IsSum c.args.cell.digits e (Some c.in-Across.border) c.in-Across.digits) ahead
    c.in-Across.ensures.0)
    (crossed_some (link_of c.args.table.now c.args.cell.base c.in-Across.border) c.link-base.result.0
    c.link-base.result.1 c.args.rot c.in-Across.digits c.turned.result c.at-next.result (ap (λ (l : ℕ × ℕ). l.0) at)
    (ap (λ (l : ℕ × ℕ). l.1) at) (sym c.is_pentagon_base.ensures ∙ c.if-is_pentagon_base.false)
    c.turned.ensures.digits c.at-next.ensures.is))

pub returns-else-is_pentagon_base-clause-ahead : goal.returns-else-is_pentagon_base-clause-ahead
returns-else-is_pentagon_base-clause-ahead c = λ d ahead.
    let rot = c.args.rot in
    let turns = c.link-base.result.1 in
    let turn : c.link-base.result.1 + c.args.rot ≡ c.args.rot + c.link-base.result.1 = omega arith in
    let laws = c.turns_add_up.ensures in
    c.turn.ensures.is ∙ ap (turned turns) ahead ∙ laws.directions turns rot d ∙ ap (λ n. turned n d) turn
    ∙ sym (laws.six (rot + turns) d)
