use Rattle.std.proofs.Common.{◌≡◌, ◌≤◌, ◌-◌, true, not, length, take}
use Rattle.std.specs.List.{list_all}
use Rattle.h3_rows.specs.Plain.{is_byte4}
use Rattle.h3_rows.proofs.lanes.find_stop.Given as goal

abbrev pub invariant-loop-at : goal.invariant-loop-at
invariant-loop-at l = record {
  within : l.at ≤ length l.bytes;
  passed : list_all (λ b. not (is_byte4 l.first l.second l.third l.fourth b)) (take l.at l.bytes) ≡ true;
}

abbrev pub decreases-loop-at : goal.decreases-loop-at
decreases-loop-at l = length l.bytes - l.at
