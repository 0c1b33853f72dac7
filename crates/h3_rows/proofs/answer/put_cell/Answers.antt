use Rattle.std.proofs.Common.{◌≡◌, ◌+◌, ◌++◌, ◌∙◌, Err, ap, arith, subst, sym, take}
use Rattle.std.proofs.lemmas.List.{take-take}
use Rattle.std.proofs.lemmas.Result.{err_from_is_err_and}
use Rattle.h3_lines.specs.RunError.{row_error_name}
use Rattle.h3_lines.specs.declared.run_error.AnswerError.TheVariants.{AtRow}
use Rattle.h3_lines.specs.Answering.{Breaks, EndsBy, Moves}
use Rattle.h3_lines.specs.Write.{sink_use}
use Rattle.h3_rows.specs.Line.{line_of}
use Rattle.h3_rows.specs.Answering.{form_of_job, mark_in, state_of}
use Rattle.h3_rows.specs.RowsAnswer.{unanswered}
use Rattle.h3_rows.proofs.Marks.{breaks_marked, marked_breaks, marked_goes, marked_moves, puts_marked, refused_marked}
use Rattle.h3_rows.proofs.Parts.{breaks_on, moves_on}
use Rattle.h3_rows.proofs.Steps.{breaks_step, puts}
use Rattle.h3_rows.proofs.answer.put_cell.Goals as goal

pub returns-in_err-last-clause-err : goal.returns-in_err-last-clause-err
returns-in_err-last-clause-err g c =
    let p = err_from_is_err_and c.from_residual.result c.from_residual.ensures.1 in
    let (k, known) = c.requires.known in
    let held = take c.args.end c.args.block.now in
    let mark = mark_in c.args.end c.args.mark c.args.block.now in
    let said = c.in_err-last.ensures.err in
    let out = sink_use g.W.Sink.taken g.W.Sink.has_failed c.args.out.now c.answer_cell.new.out in
    rw (p.1, p.2) (breaks_step c.args.state k (line_of c.args.row) (mark ++ said.text) held _ _ out known
    (marked_goes mark (line_of c.args.row) said.text (state_of c.args.state held) _
    (said.is (state_of c.args.state held)))
    (marked_breaks c.args.end c.args.mark c.args.block.now said.text out _ said.breaks))

pub returns-in_err-last-in-Err-clause-err : goal.returns-in_err-last-in-Err-clause-err
returns-in_err-last-in-Err-clause-err g c =
    let p =
    err_from_is_err_and c.from_residual-in_err-last-in-Err.result c.from_residual-in_err-last-in-Err.ensures.1 in
    let (k, known) = c.requires.known in
    let start = c.args.end + c.args.mark in
    let held = take c.args.end c.args.block.now in
    let mark = mark_in c.args.end c.args.mark c.args.block.now in
    let form = form_of_job g.F.RowFunction.counts_quotes c.args.job.now in
    let kept = rw c.in-Err.is at c.in_ok-last.ensures.kept in
    let left = rw c.in-Err.is at c.in_ok-last.ensures.left in
    let faulty = rw c.in-Err.is at c.in_ok-last.ensures.faulty in
    let row = unanswered form (line_of c.args.row) (row_error_name c.in-Err.error) in
    let e = c.in_err-last-in-Err.field-0.0 in
    let out = sink_use g.W.Sink.taken g.W.Sink.has_failed c.args.out.now c.put_unanswered.new.out in
    let broken : Breaks (take start c.args.block.now ++ row) out e =
    subst (λ l. Breaks (l ++ row) out e) kept
    (subst
    (λ s.
    Breaks (take start c.answer_cell.new.block ++ row)
    (sink_use g.W.Sink.taken g.W.Sink.has_failed s c.put_unanswered.new.out) e)
    left (rw c.error_text.ensures at c.in_err-last-in-Err.ensures.err)) in
    rw (p.1, p.2)
    (breaks_marked mark form c.args.state k (line_of c.args.row) held c.in-Err.error _ _ out c.if-job.true known
    (faulty (state_of c.args.state held)) (marked_breaks c.args.end c.args.mark c.args.block.now row out e broken))

pub returns-in_ok-last-in-Err-clause-ok : goal.returns-in_ok-last-in-Err-clause-ok
returns-in_ok-last-in-Err-clause-ok g c =
    let (k, known) = c.requires.known in
    let start = c.args.end + c.args.mark in
    let held = take c.args.end c.args.block.now in
    let mark = mark_in c.args.end c.args.mark c.args.block.now in
    let form = form_of_job g.F.RowFunction.counts_quotes c.args.job.now in
    let kept = rw c.in-Err.is at c.in_ok-last.ensures.kept in
    let left = rw c.in-Err.is at c.in_ok-last.ensures.left in
    let faulty = rw c.in-Err.is at c.in_ok-last.ensures.faulty in
    let row = unanswered form (line_of c.args.row) (row_error_name c.in-Err.error) in
    let after = take c.in_ok-last-in-Err.last c.put_unanswered.new.block in
    let moves : Moves g.W.Sink.taken g.W.Sink.has_failed (take start c.args.block.now ++ row) after c.args.out.now
    c.put_unanswered.new.out =
    subst (λ l. Moves g.W.Sink.taken g.W.Sink.has_failed (l ++ row) after c.args.out.now c.put_unanswered.new.out) kept
    (subst
    (λ s.
    Moves g.W.Sink.taken g.W.Sink.has_failed (take start c.answer_cell.new.block ++ row) after s
    c.put_unanswered.new.out)
    left (rw c.error_text.ensures at c.in_ok-last-in-Err.ensures.ok)) in
    let w = c.with_error.ensures in
    puts_marked g.W.Sink.taken g.W.Sink.has_failed mark form c.args.state c.with_error.result k
    (line_of c.args.row) held after c.in-Err.error _ _ _ known c.if-job.true w.number w.columns w.kept
    (faulty (state_of c.args.state held))
    (marked_moves g.W.Sink.taken g.W.Sink.has_failed c.args.end c.args.mark c.args.block.now row after _ _ moves)

pub returns-in_err-room-in-Ok-clause-err : goal.returns-in_err-room-in-Ok-clause-err
returns-in_err-room-in-Ok-clause-err g c =
    let p = err_from_is_err_and c.from_residual-in_err-room-in-Ok.result c.from_residual-in_err-room-in-Ok.ensures.1 in
    let (k, known) = c.requires.known in
    let start = c.args.end + c.args.mark in
    let held = take c.args.end c.args.block.now in
    let mark = mark_in c.args.end c.args.mark c.args.block.now in
    let said = rw c.in-Ok.is at c.in_ok-last.ensures.ok in
    let out = sink_use g.W.Sink.taken g.W.Sink.has_failed c.args.out.now c.make_room.new.out in
    let broken = breaks_on g.W.Sink.taken g.W.Sink.has_failed (take start c.args.block.now ++ said.text)
    (take c.in-Ok.last c.answer_cell.new.block) _ _ _ _ said.moves c.in_err-room-in-Ok.ensures.err in
    rw (p.1, p.2) (breaks_step c.args.state k (line_of c.args.row) (mark ++ said.text) held _ _ out known
    (marked_goes mark (line_of c.args.row) said.text (state_of c.args.state held) _
    (said.is (state_of c.args.state held)))
    (marked_breaks c.args.end c.args.mark c.args.block.now said.text out _ broken))

pub returns-in_ok-room-in-Ok-clause-ok : goal.returns-in_ok-room-in-Ok-clause-ok
returns-in_ok-room-in-Ok-clause-ok g c =
    let (k, known) = c.requires.known in
    let start = c.args.end + c.args.mark in
    let held = take c.args.end c.args.block.now in
    let mark = mark_in c.args.end c.args.mark c.args.block.now in
    let said = rw c.in-Ok.is at c.in_ok-last.ensures.ok in
    let after = take c.in_ok-room-in-Ok.room c.answer_cell.new.block in
    let p = c.passed.ensures in
    let moves =
    moves_on g.W.Sink.taken g.W.Sink.has_failed (take start c.args.block.now ++ said.text)
    (take c.in-Ok.last c.answer_cell.new.block) after
    _ _ _ said.moves c.in_ok-room-in-Ok.ensures.ok in
    puts c.args.state c.passed.result k known (line_of c.args.row) held g.W.Sink.taken
    g.W.Sink.has_failed _ (mark ++ said.text) after _ _ p.number p.columns p.kept
    (marked_goes mark (line_of c.args.row) said.text (state_of c.args.state held) _
    (said.is (state_of c.args.state held)))
    (marked_moves g.W.Sink.taken g.W.Sink.has_failed c.args.end c.args.mark c.args.block.now said.text after _ _ moves)

pub returns-in-Err-2-clause-err : goal.returns-in-Err-2-clause-err
returns-in-Err-2-clause-err g c =
    let end = c.args.end in
    let start = end + c.args.mark in
    let held = take end c.args.block.now in
    let mark = mark_in end c.args.mark c.args.block.now in
    let form = form_of_job g.F.RowFunction.counts_quotes c.args.job.now in
    let kept : take start c.answer_cell.new.block ≡ take start c.args.block.now =
    rw c.in-Err.is at c.in_ok-last.ensures.kept in
    let left : c.answer_cell.new.out ≡ c.args.out.now = rw c.in-Err.is at c.in_ok-last.ensures.left in
    let faulty = rw c.in-Err.is at c.in_ok-last.ensures.faulty in
    let same : take end c.answer_cell.new.block ≡ held =
    sym (take-take end start c.answer_cell.new.block (omega arith)) ∙ ap (take end) kept
    ∙ take-take end start c.args.block.now (omega arith) in
    let out = sink_use g.W.Sink.taken g.W.Sink.has_failed c.args.out.now c.refuse_row.new.out in
    let ends : EndsBy (record { output = held; ending = Err (AtRow c.args.state.number c.in-Err.error) })
    c.refuse_row.result out =
    subst (λ l. EndsBy
    (record { output = l; ending = Err (AtRow c.args.state.number c.in-Err.error) }) c.refuse_row.result out) same
    (subst
    (λ s.
    EndsBy
    (record {
      output = take end c.answer_cell.new.block;
      ending = Err (AtRow c.args.state.number c.in-Err.error);
    })
    c.refuse_row.result (sink_use g.W.Sink.taken g.W.Sink.has_failed s c.refuse_row.new.out))
    left c.refuse_row.ensures) in
    refused_marked mark form _ c.args.state (line_of c.args.row) held c.in-Err.error _ out c.if-job.false
    (faulty (state_of c.args.state held)) ends
