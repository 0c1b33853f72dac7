use Rattle.std.proofs.Common.{◌≡◌, ◌++◌, take, drop}
use Rattle.h3_numbers.specs.Reading.{after_point, before_point}
use Rattle.h3_numbers.proofs.reading.split_point.Given as goal

abbrev pub invariant-loop-at : goal.invariant-loop-at
invariant-loop-at l =
    (before_point l.bytes ≡ take l.at l.bytes ++ before_point (drop l.at l.bytes))
    × (after_point l.bytes ≡ after_point (drop l.at l.bytes))
