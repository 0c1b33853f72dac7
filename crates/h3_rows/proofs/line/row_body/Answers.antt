use Rattle.std.proofs.Common.{◌∙◌, sym}
use Rattle.h3_rows.proofs.Returns.{other_byte, other_kept, return_dropped}
use Rattle.h3_rows.proofs.line.row_body.Goals as goal

pub loop-rest-preserved : goal.loop-rest-preserved
loop-rest-preserved c =
    return_dropped c.loop-rest.rest.now c.in-len1-up.len_at_least c.if-last-ne13.false ∙ c.loop-rest.invariant

pub returns-then-last-ne13 : goal.returns-then-last-ne13
returns-then-last-ne13 c =
    sym (other_kept c.loop-rest.rest.now c.in-len1-up.len_at_least (other_byte _ c.if-last-ne13.true))
    ∙ c.loop-rest.invariant
