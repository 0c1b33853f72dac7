use Rattle.h3_lines.proofs.PlainRows.{begins_letters, begins_returned}
use Rattle.h3_lines.proofs.plain.trimmed_line.Goals as goal

pub returns-then-bytes-end-eq13 : goal.returns-then-bytes-end-eq13
returns-then-bytes-end-eq13 c =
    let p = c.in_ok-end.ensures in
    let i = c.in_ok-index.ensures in
    begins_returned c.args.bytes.now c.in_ok-end.end c.in_ok-index.index p.within p.short p.some p.feed
    c.if-bytes-end-eq13.true i.letters i.returned

pub returns : goal.returns
returns c =
    let p = c.in_ok-end.ensures in
    let i = c.in_ok-index-2.ensures in
    begins_letters c.args.bytes.now c.in_ok-end.end c.in_ok-index-2.index p.within p.short p.feed i.letters i.parsed
