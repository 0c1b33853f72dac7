use Rattle.std.proofs.Common.{◌≡◌, take, drop, ◌++◌, length}
use Rattle.std.specs.Prelude.{option_map}
use Rattle.csv.specs.Records.{fields_of}
use Rattle.h3_table.specs.Fields.{all_numbers}
use Rattle.h3_table.proofs.fields.numbers_in.Given as goal

abbrev pub invariant-loop-i : goal.invariant-loop-i
invariant-loop-i g l =
    (all_numbers (fields_of l.fields)
    ≡ option_map (λ rest. take l.i l.numbers ++ rest) (all_numbers (drop l.i (fields_of l.fields))))
    × (length l.numbers ≡ g.row.N)
