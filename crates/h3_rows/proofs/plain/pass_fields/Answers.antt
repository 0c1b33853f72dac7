use Rattle.std.proofs.Common.{◌≡◌, ◌<◌, arith, get_or, take, drop, ◌+◌}
use Rattle.std.proofs.lemmas.List.{take_rest}
use Rattle.h3_rows.proofs.PlainRows.{passes_more, passes_none}
use Rattle.h3_lines.specs.ScanLaws.{split_at}
use Rattle.h3_rows.proofs.plain.pass_fields.Goals as goal

pub loop-end-init : goal.loop-end-init
loop-end-init c = passes_none c.args.separator c.args.quotes c.requires.quote c.requires.feed c.requires.carriage
    c.args.before c.args.bytes.now

pub loop-end-preserved : goal.loop-end-preserved
loop-end-preserved c =
    let rest = c.loop-end.rest.now in
    let end = c.in_ok-end.end in
    let some : 0 < c.loop-end.left = omega (arith, c.if-left-eq0.false) in
    let stops : get_or rest end 0 ≡ c.args.separator = c.if-rest-end.false in
    rw take_rest (passes_more c.args.separator c.args.quotes c.requires.quote c.requires.feed c.requires.carriage
    c.args.before c.loop-end.left c.args.bytes.now rest (take end rest) (drop (end + 1) rest) some
    c.loop-end.invariant
    (split_at rest end c.args.separator c.in_ok-end.ensures.within stops) c.in_ok-end.ensures.whole)
