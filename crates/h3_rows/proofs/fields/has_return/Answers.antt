use Rattle.std.proofs.Common.{sym, ap, not}
use Rattle.h3_rows.proofs.Alike.{cut_is_not_uncut}
use Rattle.h3_rows.proofs.Feeds.{no_returns}
use Rattle.h3_rows.proofs.fields.has_return.Goals as goal

pub returns-in-None : goal.returns-in-None
returns-in-None c = sym (ap not (no_returns c.args.row.now c.in-None.ensures))

pub returns-in-Ok : goal.returns-in-Ok
returns-in-Ok c = sym (ap not (cut_is_not_uncut 13 _ c.args.row.now _ _ c.in-Ok.ensures.cut))

pub returns-in-Err : goal.returns-in-Err
returns-in-Err c = sym (ap not c.in-Err.ensures.uncut.uncut)
