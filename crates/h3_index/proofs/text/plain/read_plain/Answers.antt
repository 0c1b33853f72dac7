use Rattle.std.proofs.Common.{arith, ◌≡◌, IfSome, Some, true}
use Rattle.std.specs.Char.{is_digit}
use Rattle.std.specs.List.{list_all}
use Rattle.h3_index.specs.Text.{parsed_index}
use Rattle.h3_index.proofs.PlainLaws.{plain_parsed}
use Rattle.h3_index.proofs.text.plain.read_plain.Goals as goal

read : (c : goal.After-read_ends)
    → IfSome c.read_ends.result (λ index. parsed_index c.args.bytes.now ≡ Some index)
    × IfSome c.read_ends.result (λ _. list_all (λ b. is_digit b 16) c.args.bytes.now ≡ true)
read c =
    let bytes = c.args.bytes.now in
    plain_parsed bytes c.read_ends.result (omega arith) (omega arith)
    (c.read_ends.ensures bytes (omega arith) c.ends.ensures)

pub returns-clause-parsed : goal.returns-clause-parsed
returns-clause-parsed c = (read c).0

pub returns-clause-digits : goal.returns-clause-digits
returns-clause-digits c = (read c).1
