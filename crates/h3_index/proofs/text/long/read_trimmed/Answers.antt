use Rattle.std.proofs.Common.{IfSome, subst, ◌≡◌, Some}
use Rattle.h3_index.specs.Text.{parsed_number, without_prefix}
use Rattle.h3_index.proofs.TextLaws.{trimmed_letters, trimmed_parsed, trimmed_returned}
use Rattle.h3_index.proofs.text.long.read_trimmed.Goals as goal

read : (c : goal.After-read_long)
    → IfSome c.read_long.result (λ n. parsed_number (without_prefix c.args.bytes.now) ≡ Some n)
read c = subst (λ digits. IfSome c.read_long.result (λ n. parsed_number digits ≡ Some n)) c.without_prefix.ensures
    c.read_long.ensures.parsed

pub returns-clause-parsed : goal.returns-clause-parsed
returns-clause-parsed c = trimmed_parsed c.args.bytes.now c.read_long.result (read c)

pub returns-clause-letters : goal.returns-clause-letters
returns-clause-letters c = trimmed_letters c.args.bytes.now c.read_long.result (read c)

pub returns-clause-returned : goal.returns-clause-returned
returns-clause-returned c = trimmed_returned c.args.bytes.now c.read_long.result (read c)
