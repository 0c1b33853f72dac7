use Rattle.std.proofs.Common.{◌∷◌, ◌++◌, [], subst, sym, take}
use Rattle.std.proofs.lemmas.Result.{err_from_is_err_and}
use Rattle.h3_lines.specs.Answering.{Breaks, Moves}
use Rattle.h3_lines.specs.Text.{text_in}
use Rattle.h3_lines.specs.Write.{sink_use}
use Rattle.h3_rows.specs.Line.{line_of}
use Rattle.h3_rows.proofs.Beside.{one_with}
use Rattle.h3_rows.proofs.each_text.TextsRowFunction.put_beside.Goals as goal

pub returns-in_err-last-in-Ok-clause-err : goal.returns-in_err-last-in-Ok-clause-err
returns-in_err-last-in-Ok-clause-err g c =
    let p = err_from_is_err_and c.from_residual.result c.from_residual.ensures.1 in
    let text = text_in c.in-Ok.text in
    let held = take c.args.end c.args.block.now in
    let out = sink_use g.W.Sink.taken g.W.Sink.has_failed c.args.out.now c.put_row.new.out in
    let once =
    one_with c.args.separator (g.F.TextFunction.counts_quotes c.args.self.now.function.now) c.args.after.now
    (line_of c.args.row) text c.in-Ok.ensures.line in
    rw (p.1, p.2) record {
      text = text ++ 10 ∷ [];
      is = c.in-Ok.ensures.ok;
      breaks = subst
          (λ l.
          Breaks (held ++ l) out c.in_err-last-in-Ok.field-0.0) (sym once)
          (rw c.own_bytes-own.ensures at c.in_err-last-in-Ok.ensures.err);
    }

pub returns-in_ok-last-in-Ok-clause-ok : goal.returns-in_ok-last-in-Ok-clause-ok
returns-in_ok-last-in-Ok-clause-ok g c =
    let text = text_in c.in-Ok.text in
    let held = take c.args.end c.args.block.now in
    let after = take c.in_ok-last-in-Ok.last c.put_row.new.block in
    let once =
    one_with c.args.separator (g.F.TextFunction.counts_quotes c.args.self.now.function.now) c.args.after.now
    (line_of c.args.row) text c.in-Ok.ensures.line in
    record {
      text = text ++ 10 ∷ [];
      is = c.in-Ok.ensures.ok;
      moves =
          subst (λ l. Moves g.W.Sink.taken g.W.Sink.has_failed (held ++ l) after c.args.out.now c.put_row.new.out)
          (sym once) (rw c.own_bytes-own.ensures at c.in_ok-last-in-Ok.ensures.ok);
    }
