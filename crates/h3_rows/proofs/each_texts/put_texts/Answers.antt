use Rattle.std.proofs.Common.{◌++◌, take, sym, subst, arith}
use Rattle.std.proofs.lemmas.List.{nil_from_length}
use Rattle.std.proofs.lemmas.Result.{IfErr-weaker, IfOk-weaker}
use Rattle.h3_lines.specs.Answering.{Breaks, Moves}
use Rattle.h3_lines.specs.Write.{sink_use}
use Rattle.h3_rows.specs.Line.{line_of}
use Rattle.h3_rows.proofs.Beside.{none_first}
use Rattle.h3_rows.proofs.each_texts.put_texts.Goals as goal

pub returns-in-empty-clause-ok : goal.returns-in-empty-clause-ok
returns-in-empty-clause-ok g c =
    let held = take c.args.end c.args.block.now in
    let once =
    none_first c.args.separator (g.F.TextsFunction.counts_quotes c.args.function.now) c.args.after.now
    (line_of c.args.row) (g.F.TextsFunction.none_of c.args.function.now)
    (g.F.TextsFunction.text_of c.args.function.now) c.args.numbers.now c.none.result.now
    (nil_from_length c.args.numbers.now (omega (arith, c.in-empty.len_below))) c.none.ensures.text
    c.none.ensures.line in
    IfOk-weaker c.put_row.result _ _ (λ last h. subst (λ l. Moves g.W.Sink.taken g.W.Sink.has_failed (held ++ l)
    (take last c.put_row.new.block) c.args.out.now c.put_row.new.out) (sym once) h) c.put_row.ensures.ok

pub returns-in-empty-clause-err : goal.returns-in-empty-clause-err
returns-in-empty-clause-err g c =
    let held = take c.args.end c.args.block.now in
    let once =
    none_first c.args.separator (g.F.TextsFunction.counts_quotes c.args.function.now) c.args.after.now
    (line_of c.args.row) (g.F.TextsFunction.none_of c.args.function.now)
    (g.F.TextsFunction.text_of c.args.function.now) c.args.numbers.now c.none.result.now
    (nil_from_length c.args.numbers.now (omega (arith, c.in-empty.len_below))) c.none.ensures.text
    c.none.ensures.line in
    IfErr-weaker c.put_row.result _ _ (λ e h. subst
    (λ l. Breaks (held ++ l) (sink_use g.W.Sink.taken g.W.Sink.has_failed c.args.out.now c.put_row.new.out) e)
    (sym once) h) c.put_row.ensures.err
