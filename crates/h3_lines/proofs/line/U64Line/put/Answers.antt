use Rattle.std.proofs.Common.{◌++◌, ◌∷◌, [], take, arith, ap, sym, ◌∙◌}
use Rattle.std.proofs.lemmas.Fmt.{decimal_digit}
use Rattle.h3_lines.proofs.line.U64Line.put.Goals as goal

pub returns-then-self-lt10-clause-line : goal.returns-then-self-lt10-clause-line
returns-then-self-lt10-clause-line c =
    c.put_ended.ensures.line
    ∙ ap (λ text. take c.args.at c.args.block.now ++ (text ++ 10 ∷ []))
    (sym (decimal_digit c.args.self.now (omega arith)))
