use Rattle.std.proofs.Common.{◌<◌, ◌^◌, sym, ◌∙◌, arith}
use Rattle.h3_numbers.proofs.DigitLaws.{not_few, other_among, read_more}
use Rattle.h3_numbers.proofs.PowerLaws.{room_for_one}
use Rattle.h3_numbers.proofs.reading.read_digits.Goals as goal

pub returns-then-not-is_ascii_digit-clause-none : goal.returns-then-not-is_ascii_digit-clause-none
returns-then-not-is_ascii_digit-clause-none c =
    let other = sym c.is_ascii_digit.ensures.value ∙ c.if-not-is_ascii_digit.true in
    not_few c.args.digits.now (other_among c.args.digits.now c.loop-byte.byte-index (omega arith) other)

pub overflow_mul-value : goal.overflow_mul-value
overflow_mul-value c =
    let l = c.loop-byte in
    let bound : l.value < 10 ^ 17 = room_for_one l.byte-index l.value (omega arith) l.invariant.1 in
    omega arith

pub overflow_add-value : goal.overflow_add-value
overflow_add-value c =
    let l = c.loop-byte in
    let bound : l.value < 10 ^ 17 = room_for_one l.byte-index l.value (omega arith) l.invariant.1 in
    omega arith

pub loop-byte-preserved : goal.loop-byte-preserved
loop-byte-preserved c =
    let l = c.loop-byte in
    let kept = l.invariant in
    let digit = sym c.is_ascii_digit.ensures.value ∙ c.if-not-is_ascii_digit.false in
    read_more c.args.digits.now l.byte-index l.value (omega arith) kept.0 kept.1 kept.2 digit
