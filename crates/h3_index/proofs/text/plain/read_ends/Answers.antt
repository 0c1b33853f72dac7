use Rattle.std.proofs.Common.{◌*◌, ◌/◌, ◌%◌, ◌^◌, ◌∙◌, ap, bit_or}
use Rattle.std.proofs.lemmas.Nat.{and_mask}
use Rattle.h3_index.specs.Text.{plain_index}
use Rattle.h3_index.proofs.PlainLaws.{ends_read, ends_refused}
use Rattle.h3_index.proofs.text.plain.read_ends.Goals as goal

pub returns-in_err-both : goal.returns-in_err-both
returns-in_err-both c = λ bytes long are.
    c.from_residual.ensures
    ∙ ends_refused c.args.more bytes c.requires.few long (c.in_err-both.ensures ∙ ap plain_index are)

pub returns : goal.returns
returns c = λ bytes long are.
    let number = c.in_ok-both.both in
    ends_read c.args.more bytes number _ c.requires.few long (c.in_ok-both.ensures ∙ ap plain_index are)
    (ap (bit_or (number / 2 ^ 32 * 2 ^ (4 * c.args.more) % 2 ^ 64)) (and_mask number 32))
