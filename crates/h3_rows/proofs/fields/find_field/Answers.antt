use Rattle.std.proofs.Common.{◌≡◌, ◌<◌, ◌∙◌, arith}
use Rattle.h3_rows.proofs.Finding.{field_here, field_last, field_passed, no_field}
use Rattle.h3_rows.proofs.fields.find_field.Goals as goal

pub returns-in-Err : goal.returns-in-Err
returns-in-Err c =
    let some : 0 < c.loop-left.left = omega (arith, c.loop-left-test.true) in
    c.loop-left.invariant
    ∙ no_field c.args.separator c.args.quotes _ c.loop-left.rest.now c.loop-left.left some c.in-Err.ensures.uncut

pub loop-left-preserved : goal.loop-left-preserved
loop-left-preserved c =
    let some : 0 < c.loop-left.left = omega (arith, c.loop-left-test.true) in
    c.loop-left.invariant
    ∙ field_passed c.args.separator c.args.quotes c.loop-left.rest.now c.in-Ok.field-0-0.now c.in-Ok.after.now
    c.loop-left.left some c.in-Ok.ensures.cut

pub returns-in-Ok-split : goal.returns-in-Ok-split
returns-in-Ok-split c =
    let none : c.loop-left.left ≡ 0 = omega (arith, c.loop-left-test.false) in
    c.loop-left.invariant
    ∙ field_here c.args.separator c.args.quotes c.loop-left.rest.now c.in-Ok-split.field.now
    c.in-Ok-split.field-0-1.now c.loop-left.left none c.in-Ok-split.ensures.cut

pub returns-in-Err-split : goal.returns-in-Err-split
returns-in-Err-split c =
    let none : c.loop-left.left ≡ 0 = omega (arith, c.loop-left-test.false) in
    c.loop-left.invariant
    ∙ field_last c.args.separator c.args.quotes _ c.loop-left.rest.now c.loop-left.left none
    c.in-Err-split.ensures.uncut
