use Rattle.std.proofs.Common.{◌≡◌, ◌<◌, ◌≤◌, drop}
use Rattle.h3_table.specs.Fields.{number_from}
use Rattle.h3_table.proofs.fields.number_in.Given as goal

abbrev pub invariant-loop-byte : goal.invariant-loop-byte
invariant-loop-byte l = (number_from 0 l.field ≡ number_from l.number (drop l.byte-index l.field))
    × (l.byte-index ≤ 0 → l.number < 1) × (l.byte-index ≤ 1 → l.number < 10) × (l.byte-index ≤ 2 → l.number < 100)
