use Rattle.std.proofs.lemmas.List.{take_rest}
use Rattle.std.proofs.lemmas.Result.{err_from_is_err_and}
use Rattle.h3_lines.proofs.RowStarts.{cut_on, uncut_on}
use Rattle.h3_lines.proofs.splitting.split_row.Goals as goal

pub returns-in_err-more-clause-uncut : goal.returns-in_err-more-clause-uncut
returns-in_err-more-clause-uncut c =
    let p = err_from_is_err_and c.from_residual.result c.from_residual.ensures.1 in
    rw (p.1, p.2) (uncut_on 10 c.args.quotes c.args.bytes.now c.args.start.held c.requires.uncut
    (rw take_rest at c.in_err-more.ensures.uncut))

pub returns-clause-cut : goal.returns-clause-cut
returns-clause-cut c =
    cut_on 10 c.args.quotes c.args.bytes.now c.args.start.held c.requires.uncut c.in_ok-more.more.now
    c.in_ok-more.after.now (rw take_rest at c.in_ok-more.ensures.cut)
