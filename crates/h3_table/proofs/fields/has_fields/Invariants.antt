use Rattle.std.proofs.Common.{◌≡◌, drop, map}
use Rattle.csv.specs.Records.{fields_of}
use Rattle.h3_table.specs.Fields.{same_fields}
use Rattle.h3_table.proofs.fields.has_fields.Given as goal

abbrev pub invariant-loop-i : goal.invariant-loop-i
invariant-loop-i l =
    same_fields (fields_of l.fields) (map (λ f. f.now) l.names)
    ≡ same_fields (drop l.i (fields_of l.fields)) (drop l.i (map (λ f. f.now) l.names))
