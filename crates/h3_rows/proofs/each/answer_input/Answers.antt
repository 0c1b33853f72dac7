use Rattle.std.proofs.Common.{◌≡◌, ℕ, Err, ◌<◌, ◌++◌, ◌∷◌, [], ◌∙◌, ap, arith, length, length-take, refl, replicate, rules, sym, take, inl, inr}
use Rattle.std.proofs.lemmas.Result.{err_from_is_err_and}
use Rattle.h3_streams.specs.Counted.{source_of}
use Rattle.h3_lines.specs.Pieces.{Piece, without_last_nothing}
use Rattle.h3_lines.specs.Answering.{RefusesEach}
use Rattle.h3_lines.specs.EachLaws.{answered_then}
use Rattle.h3_lines.specs.Write.{sink_use}
use Rattle.h3_rows.specs.Answering.{form_of_job, held_of, state_of}
use Rattle.h3_rows.specs.LastRow.{returns_after}
use Rattle.h3_rows.specs.Row.{lacking, list_rows}
use Rattle.h3_rows.specs.RowsAnswer.{end_of, rows_then}
use Rattle.h3_rows.proofs.EndsRows.{ends_before, ends_from, ends_last, ends_late}
use Rattle.h3_rows.proofs.LastRow.{list_completes, long_kept, rows_ended}
use Rattle.h3_rows.proofs.Steps.{held_nothing}
use Rattle.h3_rows.proofs.each.answer_input.Goals as goal

pub returns-in_err-begun-clause-ends : goal.returns-in_err-begun-clause-ends
returns-in_err-begun-clause-ends g c =
    let p = err_from_is_err_and c.from_residual.result c.from_residual.ensures.1 in
    let e = c.in_err-begun.field-0.0 in
    let v = c.args.answers.now in
    let w = c.drive_to_end-reading.new.job in
    let after = source_of c.drive_to_end-reading.new.reader in
    let qs = v.job.now.options.now.quotes in
    let form = form_of_job g.F.RowFunction.counts_quotes v.job.now in
    let answer = g.F.RowFunction.answer_of v.job.now.function.now in
    let ends =
    ends_before qs g.W.Sink.taken g.W.Sink.has_failed
    (λ v last.
    rows_then last (form_of_job g.F.RowFunction.counts_quotes v.job.now)
    (g.F.RowFunction.answer_of v.job.now.function.now))
    (λ v last s. refl)
    (λ v. state_of v.state (take v.end v.block)) (λ v. held_of v.state.columns (take v.end v.block))
    (λ v. v.out.now) _ _ _
    (λ v w ls t. t.0) (λ v w ls t. ap (λ j last. rows_then last (form_of_job g.F.RowFunction.counts_quotes j.now)
    (g.F.RowFunction.answer_of j.now.function.now)) t.1) (λ v w ls e r. r.0) (λ v is. is)
    (λ s. end_of form.choice s s.columns) v w (g.R.Source.left c.args.input.now) (g.R.Source.left after)
    (g.R.Source.has_failed c.args.input.now) (g.R.Source.has_failed after) e
    (held_nothing v.state.columns v.end v.block c.requires.empty)
    (rw (c.new-reader.ensures.source, c.new-reader.ensures.limit) at c.in_err-begun.ensures.err) in
    rw (p.1, p.2) (ends_from g.R.Source.left g.R.Source.has_failed after _ qs form answer _
    (g.R.Source.left c.args.input.now) (g.R.Source.has_failed c.args.input.now) (Err e)
    (sink_use g.W.Sink.taken g.W.Sink.has_failed v.out.now w.out.now)
    (search (rules, c.drive_to_end-reading.ensures.same)) c.requires.first ends)

pub returns-in_err-begun-clause-same : goal.returns-in_err-begun-clause-same
returns-in_err-begun-clause-same g c =
    let qs = c.args.answers.now.job.now.options.now.quotes in
    elim c.in_err-begun.ensures.err [
      | inl (is, s) ↦ s.takes.2
      | inr (stops, kept) ↦ (let s = stops (list_rows qs) (list_completes qs) in s.refuses.refuses.1 ∙ s.takes.2)
    ]

pub returns-in_default-clause-ends : goal.returns-in_default-clause-ends
returns-in_default-clause-ends g c =
    let v = c.args.answers.now in
    let w = c.drive_to_end-reading.new.job in
    let after = source_of c.drive_to_end-reading.new.reader in
    let qs = v.job.now.options.now.quotes in
    let form = form_of_job g.F.RowFunction.counts_quotes v.job.now in
    let answer = g.F.RowFunction.answer_of v.job.now.function.now in
    let t = rw (c.new-reader.ensures.source, c.new-reader.ensures.limit) at c.in_ok-begun.ensures.ok in
    let sound = rw c.new-reader.ensures.source at c.in_ok-begun.ensures.sound in
    let left = take c.in_ok-begun.begun c.drive_to_end-reading.new.page.items in
    let inside = c.in_ok-begun.inside in
    let returns : replicate w.returns 13 ≡ returns_after [] t.ended =
    t.takes.3 ∙ ap (λ n. returns_after (replicate n 13) t.ended) c.requires.none in
    let rows = rows_ended qs t.bytes t.ended left inside w.returns t.pieces returns in
    let long : 1114111 < length (left ++ lacking (replicate w.returns 13) left) = c.in_default.ensures.none in
    let row : Piece = (left ++ lacking (replicate w.returns 13) left, inside) in
    let last = rows ∙ ap (λ l. t.ended ++ l) (long_kept 1114111 row.0 inside long) in
    let ends =
    ends_last qs g.W.Sink.taken g.W.Sink.has_failed
    (λ v last.
    rows_then last (form_of_job g.F.RowFunction.counts_quotes v.job.now)
    (g.F.RowFunction.answer_of v.job.now.function.now))
    (λ v last s. refl)
    (λ v. state_of v.state (take v.end v.block)) (λ v. held_of v.state.columns (take v.end v.block)) (λ v. v.out.now) _
    (λ v ls x e. RefusesEach (λ last. rows_then last (form_of_job g.F.RowFunction.counts_quotes v.job.now)
    (g.F.RowFunction.answer_of v.job.now.function.now)) (state_of v.state
    (take v.end v.block)) (held_of v.state.columns
    (take v.end v.block)) ls e (sink_use g.W.Sink.taken g.W.Sink.has_failed v.out.now x.out.now)) _
    (λ v w ls t. t.0) (λ v w ls t. ap (λ j last. rows_then last (form_of_job g.F.RowFunction.counts_quotes j.now)
    (g.F.RowFunction.answer_of j.now.function.now)) t.1) (λ v w ls e r. r) (λ v is. is)
    (λ s. end_of form.choice s s.columns) v w c.refuse_long.new.self (g.R.Source.left c.args.input.now)
    (g.R.Source.left after) (g.R.Source.has_failed c.args.input.now)
    (g.R.Source.has_failed after) c.refuse_long.result (row ∷ [])
    (held_nothing v.state.columns v.end v.block c.requires.empty) t last c.in_ok-begun.ensures.settled sound
    (c.refuse_long.ensures row long []).0 in
    ends_from g.R.Source.left g.R.Source.has_failed after _ qs form answer _ (g.R.Source.left c.args.input.now)
    (g.R.Source.has_failed c.args.input.now) (Err c.refuse_long.result)
    (sink_use g.W.Sink.taken g.W.Sink.has_failed v.out.now c.refuse_long.new.self.out.now)
    (search (rules, c.drive_to_end-reading.ensures.same)) c.requires.first ends

pub returns-in_default-clause-same : goal.returns-in_default-clause-same
returns-in_default-clause-same g c =
    let w = c.drive_to_end-reading.new.job in
    let left = take c.in_ok-begun.begun c.drive_to_end-reading.new.page.items in
    let long : 1114111 < length (left ++ lacking (replicate w.returns 13) left) = c.in_default.ensures.none in
    let row : Piece = (left ++ lacking (replicate w.returns 13) left, c.in_ok-begun.inside) in
    (c.refuse_long.ensures row long []).1 ∙ c.in_ok-begun.ensures.ok.takes.2

pub returns-in_err-take_last-clause-ends : goal.returns-in_err-take_last-clause-ends
returns-in_err-take_last-clause-ends g c =
    let p = err_from_is_err_and c.from_residual-in_err-take_last.result c.from_residual-in_err-take_last.ensures.1 in
    let e = c.in_err-take_last.field-0.0 in
    let v = c.args.answers.now in
    let w = c.drive_to_end-reading.new.job in
    let after = source_of c.drive_to_end-reading.new.reader in
    let qs = v.job.now.options.now.quotes in
    let form = form_of_job g.F.RowFunction.counts_quotes v.job.now in
    let answer = g.F.RowFunction.answer_of v.job.now.function.now in
    let t = rw (c.new-reader.ensures.source, c.new-reader.ensures.limit) at c.in_ok-begun.ensures.ok in
    let sound = rw c.new-reader.ensures.source at c.in_ok-begun.ensures.sound in
    let left = take c.in_ok-begun.begun c.drive_to_end-reading.new.page.items in
    let inside = c.in_ok-begun.inside in
    let returns : replicate w.returns 13 ≡ returns_after [] t.ended =
    t.takes.3 ∙ ap (λ n. returns_after (replicate n 13) t.ended) c.requires.none in
    let rows = rows_ended qs t.bytes t.ended left inside w.returns t.pieces returns in
    let row = take c.in-Some.last c.deref.result.now in
    let last =
    rows
    ∙ ap (λ l. t.ended ++ without_last_nothing ((l, inside) ∷ []))
    (sym (ap (take c.in-Some.last) c.deref.ensures.value ∙ c.in-Some.ensures.some)) in
    let ends =
    ends_last qs g.W.Sink.taken g.W.Sink.has_failed
    (λ v last.
    rows_then last (form_of_job g.F.RowFunction.counts_quotes v.job.now)
    (g.F.RowFunction.answer_of v.job.now.function.now))
    (λ v last s. refl)
    (λ v. state_of v.state (take v.end v.block)) (λ v. held_of v.state.columns (take v.end v.block)) (λ v. v.out.now) _
    (λ v ls x e. RefusesEach (λ last. rows_then last (form_of_job g.F.RowFunction.counts_quotes v.job.now)
    (g.F.RowFunction.answer_of v.job.now.function.now)) (state_of v.state
    (take v.end v.block)) (held_of v.state.columns
    (take v.end v.block)) ls e (sink_use g.W.Sink.taken g.W.Sink.has_failed v.out.now x.out.now)) _
    (λ v w ls t. t.0) (λ v w ls t. ap (λ j last. rows_then last (form_of_job g.F.RowFunction.counts_quotes j.now)
    (g.F.RowFunction.answer_of j.now.function.now)) t.1) (λ v w ls e r. r) (λ v is. is)
    (λ s. end_of form.choice s s.columns) v w c.take_last.new.job (g.R.Source.left c.args.input.now)
    (g.R.Source.left after) (g.R.Source.has_failed c.args.input.now) (g.R.Source.has_failed after) e
    (without_last_nothing ((row, inside) ∷ []))
    (held_nothing v.state.columns v.end v.block c.requires.empty) t last c.in_ok-begun.ensures.settled sound
    c.in_err-take_last.ensures.err.0 in
    rw (p.1, p.2) (ends_from g.R.Source.left g.R.Source.has_failed after _ qs form answer _
    (g.R.Source.left c.args.input.now) (g.R.Source.has_failed c.args.input.now) (Err e)
    (sink_use g.W.Sink.taken g.W.Sink.has_failed v.out.now c.take_last.new.job.out.now)
    (search (rules, c.drive_to_end-reading.ensures.same)) c.requires.first ends)

pub returns-clause-ends : goal.returns-clause-ends
returns-clause-ends g c =
    let v = c.args.answers.now in
    let after = source_of c.drive_to_end-reading.new.reader in
    let qs = v.job.now.options.now.quotes in
    let form = form_of_job g.F.RowFunction.counts_quotes v.job.now in
    let answer = g.F.RowFunction.answer_of v.job.now.function.now in
    ends_from g.R.Source.left g.R.Source.has_failed after _ qs form answer _ (g.R.Source.left c.args.input.now)
    (g.R.Source.has_failed c.args.input.now) c.end_answer.result
    (sink_use g.W.Sink.taken g.W.Sink.has_failed v.out.now c.end_answer.new.out)
    (search (rules, c.drive_to_end-reading.ensures.same)) c.requires.first
    (let w = c.drive_to_end-reading.new.job in
    let t = rw (c.new-reader.ensures.source, c.new-reader.ensures.limit) at c.in_ok-begun.ensures.ok in
    let sound = rw c.new-reader.ensures.source at c.in_ok-begun.ensures.sound in
    let left = take c.in_ok-begun.begun c.drive_to_end-reading.new.page.items in
    let inside = c.in_ok-begun.inside in
    let returns : replicate w.returns 13 ≡ returns_after [] t.ended =
    t.takes.3 ∙ ap (λ n. returns_after (replicate n 13) t.ended) c.requires.none in
    let rows = rows_ended qs t.bytes t.ended left inside w.returns t.pieces returns in
    let x = c.take_last.new.job in
    let row = take c.in-Some.last c.deref.result.now in
    let last =
    rows
    ∙ ap (λ l. t.ended ++ without_last_nothing ((l, inside) ∷ []))
    (sym (ap (take c.in-Some.last) c.deref.ensures.value ∙ c.in-Some.ensures.some)) in
    let more = without_last_nothing ((row, inside) ∷ []) in
    let q = c.in_ok-take_last.ensures.ok in
    let answered =
    answered_then _ _ (λ j last. rows_then last (form_of_job g.F.RowFunction.counts_quotes j.now)
    (g.F.RowFunction.answer_of j.now.function.now)) t.ended more t.takes.1 t.takes.0 q.0 in
    let job : x.job ≡ v.job = q.1 ∙ t.takes.1 in
    ends_late qs g.W.Sink.taken g.W.Sink.has_failed (λ v last. rows_then last
    (form_of_job g.F.RowFunction.counts_quotes v.job.now)
    (g.F.RowFunction.answer_of v.job.now.function.now)) (λ v last s. refl)
    (λ v. state_of v.state (take v.end v.block)) (λ v. held_of v.state.columns (take v.end v.block)) (λ v. v.out.now) _
    (λ v ls w e. ⊥) _
    (λ v w ls t. t.0) (λ v w ls t. ap (λ j last. rows_then last (form_of_job g.F.RowFunction.counts_quotes j.now)
    (g.F.RowFunction.answer_of j.now.function.now)) t.1) (λ v w ls e never. absurd never) (λ v is. is)
    (λ s. end_of form.choice s s.columns) v w x _ (g.R.Source.left c.args.input.now) (g.R.Source.left after)
    (g.R.Source.has_failed c.args.input.now) (g.R.Source.has_failed after) c.end_answer.result more
    (held_nothing v.state.columns v.end v.block c.requires.empty) t last answered c.in_ok-take_last.ensures.settled
    sound (rw job at c.end_answer.ensures))

pub take_last-requires : goal.take_last-requires
take_last-requires g c =
    record {
      few =
          omega (
            arith,
            length-take {A = ℕ},
            c.in-Some.ensures.short,
            c.in_ok-begun.ensures.counted,
            c.requires.few,
            c.new-reader.ensures.limit,
          );
    }
