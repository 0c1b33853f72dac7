use Rattle.std.proofs.Common.{◌∙◌}
use Rattle.h3_numbers.proofs.ZeroLaws.{other_last, zero_last}
use Rattle.h3_numbers.proofs.writing.without_last_zeros.Goals as goal

pub returns-then-last-ne48 : goal.returns-then-last-ne48
returns-then-last-ne48 c =
    let l = c.loop-rest in
    other_last l.rest.now c.in-len1-up.len_at_least c.if-last-ne48.true ∙ l.invariant

pub loop-rest-preserved : goal.loop-rest-preserved
loop-rest-preserved c =
    let l = c.loop-rest in
    zero_last l.rest.now c.in-len1-up.len_at_least c.if-last-ne48.false ∙ l.invariant
