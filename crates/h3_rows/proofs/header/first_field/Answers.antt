use Rattle.std.proofs.Common.{ap}
use Rattle.h3_rows.specs.RowsAnswer.{places_of}
use Rattle.h3_rows.proofs.Finding.{cuts_first}
use Rattle.h3_lines.specs.PiecesLaws.{cut_at_end}
use Rattle.h3_rows.proofs.header.first_field.Goals as goal

pub returns-in-Ok-clause-places : goal.returns-in-Ok-clause-places
returns-in-Ok-clause-places c wanted place =
    ap (places_of c.args.quotes wanted place)
    (cuts_first c.args.separator c.args.quotes c.args.bytes.now _ _ c.in-Ok.ensures.cut)

pub returns-in-Err-clause-places : goal.returns-in-Err-clause-places
returns-in-Err-clause-places c wanted place =
    ap (places_of c.args.quotes wanted place) (cut_at_end _ _ _ c.args.bytes.now c.in-Err.ensures.uncut.uncut)
