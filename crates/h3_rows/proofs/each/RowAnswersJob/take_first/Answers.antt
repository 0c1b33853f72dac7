use Rattle.std.proofs.Common.{false, [], ◌∷◌, ap, arith, length, length-append, refl, sym, take}
use Rattle.std.proofs.lemmas.List.{take_rest}
use Rattle.h3_lines.specs.Pieces.{CutsAt}
use Rattle.h3_lines.specs.EachLaws.{answered_none}
use Rattle.h3_rows.specs.Answering.{form_of_job}
use Rattle.h3_rows.proofs.PlainAnswers.{first_cut, plain_answered, plain_cuts}
use Rattle.h3_rows.proofs.each.RowAnswersJob.take_first.Goals as goal

pub returns-then-quotes-self-clause-none : goal.returns-then-quotes-self-clause-none
returns-then-quotes-self-clause-none g c = (answered_none g.W.Sink.taken g.W.Sink.has_failed _ _ _ _, refl, refl, refl)

pub returns-in_default-clause-none : goal.returns-in_default-clause-none
returns-in_default-clause-none g c = (answered_none g.W.Sink.taken g.W.Sink.has_failed _ _ _ _, refl, refl, refl)

pub returns-in-None-clause-none : goal.returns-in-None-clause-none
returns-in-None-clause-none g c =
    rw c.in-None.ensures.none (answered_none g.W.Sink.taken g.W.Sink.has_failed _ _ _ _, refl, refl, refl)

pub slice_bounds-result-count : goal.slice_bounds-result-count
slice_bounds-result-count g c =
    let p = c.in-Some-put_plain.ensures.some in
    omega (arith, ap length p.split, length-append p.row (10 ∷ p.after), p.size_is)

pub slice_bounds-result-start : goal.slice_bounds-result-start
slice_bounds-result-start g c =
    let p = c.in-Some-put_plain.ensures.some in
    omega (arith, ap length p.split, length-append p.row (10 ∷ p.after), p.size_is)

pub returns-in-Some-put_plain-clause-some : goal.returns-in-Some-put_plain-clause-some
returns-in-Some-put_plain-clause-some g c =
    let v = c.args.self.now in
    let form = form_of_job g.F.RowFunction.counts_quotes v.job.now in
    let answer = g.F.RowFunction.answer_of v.job.now.function.now in
    let size = c.in-Some-put_plain.size in
    let returns = c.in-Some-put_plain.returns in
    let p = c.in-Some-put_plain.ensures.some in
    let held = take v.end v.block in
    let held' = take c.in-Some-put_plain.end c.put_plain.new.block in
    let cuts : CutsAt 10 c.args.quotes false c.args.bytes.now p.row p.after =
    plain_cuts form answer v.state c.args.bytes.now held held' size returns c.args.quotes c.if-quotes-self.false p
    in
    rw take_rest (record {
      ended = (p.row, false) ∷ [];
      rows = λ rest. first_cut c.args.quotes c.args.bytes.now p.row p.after size cuts p.size_is rest;
      takes = (
        plain_answered g.W.Sink.taken g.W.Sink.has_failed form answer v.state c.count.new.self c.in-Some.columns
            c.args.bytes.now held held' size returns v.out.now c.in-Some.is c.count.ensures.number
            c.count.ensures.columns
            c.count.ensures.kept p,
        refl,
        refl,
        sym p.ending,
      );
    })
