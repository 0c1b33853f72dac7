use Rattle.std.proofs.Common.{sym}
use Rattle.h3_rows.proofs.Texts.{text_cell_parsed}
use Rattle.h3_rows.proofs.reading.text_cell.Goals as goal

pub returns-in-Ok : goal.returns-in-Ok
returns-in-Ok c = text_cell_parsed c.args.text.now c.in-Ok.index (sym c.in-Ok.ensures.parsed)
