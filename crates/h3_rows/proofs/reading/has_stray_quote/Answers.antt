use Rattle.std.proofs.Common.{ap, not}
use Rattle.h3_rows.proofs.Returns.{body_of_row}
use Rattle.h3_rows.proofs.reading.has_stray_quote.Goals as goal

pub returns-then-options : goal.returns-then-options
returns-then-options c =
    rw (c.if-options.true, body_of_row c.args.row.body.now c.args.row.returns c.args.row.bare, ← c.read_of.ensures)
    (ap not c.quotes_are_sound.ensures)
