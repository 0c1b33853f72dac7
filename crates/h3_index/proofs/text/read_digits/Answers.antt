use Rattle.std.proofs.Common.{◌≤◌, length, arith, ◌∙◌}
use Rattle.std.specs.Char.{digit_value}
use Rattle.h3_index.proofs.TextLaws.{reading_none, reading_more, reading_fits, reading_all, reading_stops, not_empty}
use Rattle.h3_index.proofs.text.read_digits.Goals as goal

pub loop-digit-init : goal.loop-digit-init
loop-digit-init c = reading_none c.args.digits.now

pub loop-digit-preserved : goal.loop-digit-preserved
loop-digit-preserved c =
    let value = c.in_ok-value.ensures.value in
    reading_more c.args.digits.now c.loop-digit.digit-index c.loop-digit.number c.from-in-loop-digit.result
    (omega arith) (rw c.from.ensures at value.0) (c.from-in-loop-digit.ensures ∙ (rw c.from.ensures at value.1))
    c.loop-digit.invariant

pub overflow_add-number : goal.overflow_add-number
overflow_add-number c =
    let value = c.in_ok-value.ensures.value in
    record {
      fits =
          reading_fits c.args.digits.now c.loop-digit.digit-index c.loop-digit.number c.from-in-loop-digit.result
          (omega arith) (omega arith) (omega (arith, value.0, value.1)) c.loop-digit.invariant;
    }

pub returns : goal.returns
returns c =
    let some = not_empty (length c.args.digits.now) c.is_empty.result c.is_empty.ensures c.if-is_empty.false in
    reading_all c.args.digits.now c.loop-digit.digit-index c.loop-digit.number some (omega arith) (omega arith)
    c.loop-digit.invariant

pub overflow_mul-number : goal.overflow_mul-number
overflow_mul-number c = record {
  fits =
      omega (
        arith,
        reading_fits c.args.digits.now c.loop-digit.digit-index c.loop-digit.number 0 (omega arith) (omega arith)
            (omega arith) c.loop-digit.invariant,
      );
}

pub returns-in_err-value : goal.returns-in_err-value
returns-in_err-value c =
    let some = not_empty (length c.args.digits.now) c.is_empty.result c.is_empty.ensures c.if-is_empty.false in
    let large : 16 ≤ digit_value c.from.result = omega (arith, c.in_err-value.ensures.value) in
    c.from_residual.ensures
    ∙ reading_stops c.args.digits.now c.loop-digit.digit-index c.loop-digit.number some (omega arith) (omega arith)
    (rw c.from.ensures at large) c.loop-digit.invariant
