use Rattle.std.proofs.Common.{◌∷◌, ◌++◌, []}
use Rattle.h3_lines.specs.Text.{text_in}
use Rattle.h3_rows.proofs.Beside.{closed_after}
use Rattle.h3_rows.proofs.each_text.TextsRowFunction.put_short.Goals as goal

pub returns-in-Ok-clause-some : goal.returns-in-Ok-clause-some
returns-in-Ok-clause-some g c =
    let text = text_in c.in-Ok.text in
    record {
      puts = record { text = text ++ 10 ∷ []; is = c.in-Ok.ensures.ok; put = c.put.ensures.line };
      closed =
          closed_after
          (g.F.TextFunction.counts_quotes c.args.self.now.function.now) text c.in-Ok.ensures.line.inside_is;
    }
