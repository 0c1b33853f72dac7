use Rattle.std.proofs.Common.{arith}
use Rattle.h3_rows.proofs.PlainRows.{ends_field, plain_row}
use Rattle.h3_rows.proofs.WholeFields.{row_bare}
use Rattle.h3_rows.proofs.plain.find_plain.Goals as goal

pub invariant_of-result : goal.invariant_of-result
invariant_of-result c =
    let a = c.args in
    let r = c.requires in
    let row = plain_row a.separator a.quotes r.quote r.feed r.carriage a.columns a.bytes.now c.in_ok-rest.rest.now
    c.in_ok-rest.end c.in_ok-last.last c.in_ok-returns.returns c.in_ok-rest.ensures.passes
    c.in_ok-last.ensures c.in_ok-returns.ensures.ends c.in_ok-returns.ensures.few in
    record { bare = row_bare _ row.whole.on_line; few = omega (arith, c.in_ok-returns.ensures.few) }

pub returns-clause-is : goal.returns-clause-is
returns-clause-is c =
    let a = c.args in
    let r = c.requires in
    plain_row a.separator a.quotes r.quote r.feed r.carriage a.columns a.bytes.now c.in_ok-rest.rest.now
    c.in_ok-rest.end c.in_ok-last.last c.in_ok-returns.returns c.in_ok-rest.ensures.passes
    c.in_ok-last.ensures c.in_ok-returns.ensures.ends c.in_ok-returns.ensures.few

pub returns-clause-field : goal.returns-clause-field
returns-clause-field c =
    let a = c.args in
    let r = c.requires in
    let p = c.in_ok-rest.ensures in
    ends_field a.separator a.quotes r.quote r.feed r.carriage a.columns.before c.in_ok-rest.end a.bytes.now
    c.in_ok-rest.rest.now p.passes p.within p.whole
