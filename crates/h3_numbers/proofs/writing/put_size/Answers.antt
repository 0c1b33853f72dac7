use Rattle.std.proofs.Common.{◌++◌, take, sym, ap, ◌∙◌, append_assoc, decimal}
use Rattle.h3_numbers.specs.Writing.{fraction_text}
use Rattle.h3_numbers.proofs.TextLaws.{size_parts}
use Rattle.h3_numbers.proofs.writing.put_size.Goals as goal

pub returns-clause-put : goal.returns-clause-put
returns-clause-put c =
    let size = c.args.size in
    let before = take c.args.end c.args.text.now in
    let digits = c.as_bytes.ensures.value ∙ c.format.ensures.text in
    let after_whole = c.put-after_whole.ensures.put ∙ ap (λ l. before ++ l) digits in
    c.put_fraction.ensures.put ∙ ap (λ l. l ++ fraction_text size.fraction) after_whole
    ∙ append_assoc before (decimal size.whole) (fraction_text size.fraction)
    ∙ ap (λ l. before ++ l) (sym (size_parts size.whole size.fraction c.requires.fraction))
