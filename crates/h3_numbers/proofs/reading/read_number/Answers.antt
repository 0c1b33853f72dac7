use Rattle.std.proofs.Common.{length}
use Rattle.h3_numbers.proofs.PowerLaws.{below_units}
use Rattle.h3_numbers.proofs.reading.read_number.Goals as goal

pub number_from-requires-clause-whole : goal.number_from-requires-clause-whole
number_from-requires-clause-whole c =
    let read = c.in_ok-whole.ensures in
    below_units (length c.split_point.result.0.now) c.in_ok-whole.whole read.short read.bound
