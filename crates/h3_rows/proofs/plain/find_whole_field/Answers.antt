use Rattle.h3_rows.proofs.PlainRows.{ended_field, last_field}
use Rattle.h3_rows.proofs.plain.find_whole_field.Goals as goal

pub returns-then-at-size : goal.returns-then-at-size
returns-then-at-size c =
    let a = c.args in
    let r = c.requires in
    let p = c.in_ok-rest.ensures in
    last_field a.separator a.quotes r.quote r.feed r.carriage a.before c.in_ok-rest.end a.size a.bytes.now
    c.in_ok-rest.rest.now p.passes p.whole c.if-at-size.true

pub returns-then-rest-end : goal.returns-then-rest-end
returns-then-rest-end c =
    let a = c.args in
    let r = c.requires in
    let p = c.in_ok-rest.ensures in
    ended_field a.separator a.quotes r.quote r.feed r.carriage a.before c.in_ok-rest.end a.size a.bytes.now
    c.in_ok-rest.rest.now p.passes p.whole p.within c.if-rest-end.true c.if-at-size-2.true
