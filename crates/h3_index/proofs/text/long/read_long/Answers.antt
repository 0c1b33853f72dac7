use Rattle.std.proofs.Common.{map, arith, ap, ◌≡◌, ◌∙◌}
use Rattle.std.specs.Char.{to_ascii_lowercase}
use Rattle.h3_index.specs.Text.{parsed_number}
use Rattle.h3_index.proofs.PlainLaws.{lowered_read}
use Rattle.h3_index.proofs.TextLaws.{number_is_some}
use Rattle.h3_index.proofs.text.long.read_long.Goals as goal

read : (c : goal.After-read_ends) → c.read_ends.result ≡ parsed_number c.args.bytes.now
read c =
    lowered_read c.args.bytes.now c.lowered.result c.read_ends.result (omega arith) (omega arith)
    (c.lowered.ensures ∙ ap (map to_ascii_lowercase) c.ends.ensures) c.read_ends.ensures

pub returns-clause-long : goal.returns-clause-long
returns-clause-long c = λ _. read c

pub returns-clause-parsed : goal.returns-clause-parsed
returns-clause-parsed c = number_is_some c.args.bytes.now c.read_ends.result (read c)
