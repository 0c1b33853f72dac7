use Rattle.h3_lines.proofs.PlainRows.{begins_plain}
use Rattle.h3_lines.proofs.plain.plain_line.Goals as goal

pub returns : goal.returns
returns c =
    begins_plain c.args.bytes.now c.in_ok-index.index c.if-bytes-le-PLAIN.false c.if-bytes-ne10.false
    c.in_ok-index.ensures.digits c.in_ok-index.ensures.parsed
