use Rattle.std.proofs.Common.{◌+◌, arith, refl}
use Rattle.std.proofs.lemmas.List.{take_rest}
use Rattle.h3_rows.proofs.PlainRows.{ends_after, ends_anywhere, ends_here, wide_is}
use Rattle.h3_rows.proofs.plain.find_last.Goals as goal

pub returns-then-rest-end : goal.returns-then-rest-end
returns-then-rest-end c =
    let a = c.args in
    let r = c.requires in
    ends_here a.separator a.quotes r.quote r.feed r.carriage a.columns a.rest.now a.end
    (rw c.in_default.is refl) r.within
    r.whole

pub returns-in_default : goal.returns-in_default
returns-in_default c =
    let a = c.args in
    let r = c.requires in
    ends_anywhere a.separator a.quotes r.quote r.feed r.carriage a.columns a.rest.now a.end c.in_ok-more.more
    (λ n. rw c.in_default.is refl) r.within c.if-rest-end.false (rw take_rest at c.in_ok-more.ensures.within) r.whole
    (rw take_rest at c.in_ok-more.ensures.whole)

pub returns-then-more-eq0 : goal.returns-then-more-eq0
returns-then-more-eq0 c =
    let a = c.args in
    let r = c.requires in
    ends_here a.separator a.quotes r.quote r.feed r.carriage a.columns a.rest.now a.end
    (wide_is a.separator a.quotes r.quote r.feed r.carriage a.columns c.in-Some.width (a.columns.before + 1)
    c.in-Some.is
    (omega (arith, c.if-more-eq0.true))) r.within r.whole

pub returns : goal.returns
returns c =
    let a = c.args in
    let r = c.requires in
    ends_after a.separator a.quotes r.quote r.feed r.carriage a.columns c.in-Some.width c.in_ok-more-2.more a.rest.now
    a.end
    c.in_ok-tail.tail.now c.in_ok-tail.last c.in-Some.is (omega arith) (omega (arith, c.if-more-eq0.false)) r.within
    c.if-rest-end-2.false r.whole (rw take_rest at c.in_ok-tail.ensures.passes) c.in_ok-tail.ensures.within
    c.in_ok-tail.ensures.whole
