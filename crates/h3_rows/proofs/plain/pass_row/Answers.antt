use Rattle.std.proofs.Common.{◌≡◌, ◌+◌, drop, get_or, take}
use Rattle.std.proofs.lemmas.List.{take_rest}
use Rattle.h3_lines.specs.ScanLaws.{split_at}
use Rattle.h3_rows.proofs.PlainRows.{begins_more, begins_none, row_ends, row_within}
use Rattle.h3_rows.proofs.plain.pass_row.Goals as goal

pub loop-end-init : goal.loop-end-init
loop-end-init c = begins_none c.args.separator c.args.quotes c.requires.quote c.requires.feed c.requires.carriage
    c.args.bytes.now

pub loop-end-preserved : goal.loop-end-preserved
loop-end-preserved c =
    let rest = c.loop-end.rest.now in
    let end = c.in_ok-end.end in
    let stops : get_or rest end 0 ≡ c.args.separator = c.if-rest-end.false in
    rw take_rest (begins_more c.args.separator c.args.quotes c.requires.quote c.requires.feed c.requires.carriage
    c.args.bytes.now rest (take end rest) (drop (end + 1) rest) c.loop-end.invariant
    (split_at rest end c.args.separator c.in_ok-end.ensures.within stops) c.in_ok-end.ensures.whole)

pub returns-then-rest-end-clause-within : goal.returns-then-rest-end-clause-within
returns-then-rest-end-clause-within c =
    row_within c.args.separator c.args.quotes c.requires.quote c.requires.feed c.requires.carriage
    c.args.bytes.now c.loop-end.rest.now c.in_ok-end.end c.loop-end.invariant c.in_ok-end.ensures.within

pub returns-then-rest-end-clause-whole : goal.returns-then-rest-end-clause-whole
returns-then-rest-end-clause-whole c =
    row_ends c.args.separator c.args.quotes c.requires.quote c.requires.feed c.requires.carriage
    c.args.bytes.now c.loop-end.rest.now c.in_ok-end.end c.loop-end.invariant c.in_ok-end.ensures.whole
