use Rattle.std.proofs.lemmas.Result.{IfErr-weaker}
use Rattle.h3_lines.proofs.taking.LineCellsJob.take_first.Goals as goal

pub returns-clause-some : goal.returns-clause-some
returns-clause-some g c = c.take_plain.ensures.some c.args._quotes

pub returns-clause-err : goal.returns-clause-err
returns-clause-err g c =
    IfErr-weaker c.take_plain.result _ _ (λ e refuses rest. refuses c.args._quotes rest) c.take_plain.ensures.err
