use Rattle.std.proofs.Common.{◌≡◌, ◌+◌, ◌≢◌, suc, take, take_all, None, sym, ap, ◌∙◌, subst, arith, rules}
use Rattle.h3_index.specs.Error.{error_number}
use Rattle.h3_c.specs.Column.{first_code, first_place}
use Rattle.h3_c.specs.Sets.{cells_in}
use Rattle.h3_c.specs.Zones.{judged}
use Rattle.h3_c.proofs.CellsIn.{some-snoc}
use Rattle.h3_c.proofs.ZoneLaws.{judged-error, judged-ok}
use Rattle.h3_c.proofs.zones.judge.Goals as goal
use Rattle.h3_c.proofs.zones.judge.Goals.{After-from, After-loop-i}

pub loop-i-init : goal.loop-i-init
unfolding cells_in
loop-i-init c = λ e. search (rules, e)

first : (c : After-from)
    → (first_code (judged c.args.indexes.now) ≡ 5) × (first_place (judged c.args.indexes.now) ≡ c.loop-i.i)
first c =
    judged-error c.args.indexes.now c.loop-i.i c.loop-i-test.true c.loop-i.invariant (sym c.in-Err.ensures.read)

pub returns-in-Err-clause-code : goal.returns-in-Err-clause-code
returns-in-Err-clause-code c =
    c.from.ensures ∙ c.number.ensures ∙ ap error_number c.in-Err.ensures.refused.0 ∙ sym (first c).0

pub returns-in-Err-clause-place : goal.returns-in-Err-clause-place
returns-in-Err-clause-place c = sym (first c).1

pub loop-i-preserved : goal.loop-i-preserved
loop-i-preserved c =
    let up : c.loop-i.i + 1 ≡ suc c.loop-i.i = omega arith in
    subst (λ n. cells_in (take n c.args.indexes.now) ≢ None) (sym up)
    (some-snoc c.args.indexes.now c.loop-i.i c.in_default.field-0 c.loop-i-test.true c.loop-i.invariant (sym
    c.in_default.ensures.read))

pub returns-in-Err-clause-invalid : goal.returns-in-Err-clause-invalid
returns-in-Err-clause-invalid c = λ ne. c.from.ensures ∙ c.number.ensures ∙ ap error_number c.in-Err.ensures.refused.0

all : (c : After-loop-i) → cells_in c.args.indexes.now ≢ None
all c =
    let whole : take c.loop-i.i c.args.indexes.now ≡ c.args.indexes.now =
    take_all c.loop-i.i c.args.indexes.now (omega (arith, c.loop-i-test.false)) in
    subst (λ l. cells_in l ≢ None) whole c.loop-i.invariant

pub returns-clause-code : goal.returns-clause-code
returns-clause-code c = sym (judged-ok c.args.indexes.now (all c)).0

pub returns-clause-place : goal.returns-clause-place
returns-clause-place c = sym (judged-ok c.args.indexes.now (all c)).1

pub returns-clause-cells : goal.returns-clause-cells
returns-clause-cells c = λ e. all c
