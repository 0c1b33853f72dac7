use Rattle.std.proofs.lemmas.List.{take_rest}
use Rattle.h3_lines.proofs.Scan.{unmarked_all, unmarked_cut}
use Rattle.h3_lines.proofs.splitting.split.Goals as goal

pub returns-in-Some-clause-cut : goal.returns-in-Some-clause-cut
returns-in-Some-clause-cut c =
    let (first, passes) = c.in-Some.ensures in
    rw (c.if-quotes.false, c.requires.outside c.if-quotes.false, take_rest)
    (unmarked_cut c.args.mark c.args.bytes.now c.in-Some.at first.high first.before passes)

pub returns-in-None-clause-uncut : goal.returns-in-None-clause-uncut
returns-in-None-clause-uncut c =
    rw (
      c.if-quotes.false,
      c.requires.outside c.if-quotes.false,
    ) (unmarked_all c.args.mark c.args.bytes.now c.in-None.ensures)
