use Rattle.std.proofs.Common.{◌∷◌, ◌++◌, [], ap, ◌∙◌}
use Rattle.h3_lines.specs.Answer.{written}
use Rattle.h3_rows.proofs.Beside.{closed_after}
use Rattle.h3_rows.proofs.each_texts.SeveralRowFunction.put_short.Goals as goal

pub returns-in-Some-clause-some : goal.returns-in-Some-clause-some
returns-in-Some-clause-some g c =
    let text = c.in-Some.text.now in
    record {
      puts =
          record {
            text = text ++ 10 ∷ [];
            is = c.in-Ok.ensures.ok ∙ ap written c.in-Some.ensures.only;
            put = c.hold_row.ensures.held;
          };
      closed =
          closed_after
          (g.F.TextsFunction.counts_quotes c.args.self.now.function.now) text c.in-Some.ensures.line.inside_is;
    }
