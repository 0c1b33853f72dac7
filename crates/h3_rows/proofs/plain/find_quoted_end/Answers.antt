use Rattle.std.proofs.lemmas.List.{take_rest}
use Rattle.h3_rows.proofs.WholeFields.{quoted_whole}
use Rattle.h3_rows.proofs.plain.find_quoted_end.Goals as goal

pub returns-clause-whole : goal.returns-clause-whole
returns-clause-whole c =
    quoted_whole c.args.separator c.args.quotes c.requires.quote c.args.bytes.now c.in_ok-inner.inner
    c.if-not-quotes.false
    c.if-bytes-ne34.false c.if-bytes-inner.false
    (rw take_rest at c.in_ok-inner.ensures.passed) c.if-bytes-inner-ne34.false
