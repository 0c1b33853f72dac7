use Rattle.std.proofs.Common.{length, arith}
use Rattle.h3_numbers.proofs.PowerLaws.{fraction_below_units}
use Rattle.h3_numbers.proofs.reading.read_fraction.Goals as goal

pub returns-clause-bound : goal.returns-clause-bound
returns-clause-bound c =
    let read = c.in_ok-value.ensures in
    rw c.power_of_ten.ensures
    (fraction_below_units (length c.args.digits.now) c.in_ok-value.value read.short read.bound)

pub overflow_mul-result : goal.overflow_mul-result
overflow_mul-result c =
    let read = c.in_ok-value.ensures in
    let below = fraction_below_units (length c.args.digits.now) c.in_ok-value.value read.short read.bound in
    rw c.power_of_ten.ensures (omega (arith, below))
