use Rattle.std.proofs.Common.{◌≡◌, ◌-◌, ◌<◌, false, length, ◌∙◌, arith, sym, subst, take, replicate, ap, ◌++◌, ◌∷◌, [], append_assoc, ℕ, List}
use Rattle.h3_rows.specs.Lanes.{IsOneLine}
use Rattle.h3_rows.specs.Answering.{form_of_job}
use Rattle.h3_rows.proofs.PlainAnswers.{before_feed, front_kept, put_after, puts_plain, some_from_test}
use Rattle.h3_rows.proofs.answer.put_plain.Goals as goal

pub returns-then-row-eq0-clause-some : goal.returns-then-row-eq0-clause-some
returns-then-row-eq0-clause-some g c =
    let a = c.args in
    let form = form_of_job g.F.RowFunction.counts_quotes a.job.now in
    let answer = g.F.RowFunction.answer_of a.job.now.function.now in
    let row = c.in_ok-row.row.body.now in
    let returns = c.in_ok-row.row.returns in
    let done = c.in-Some.ensures.some in
    let mid = c.hold_row-at.new.block in
    let held = take a.end a.block.now in
    let silent : form.shows_errors ≡ false = c.if-job.false in
    let some : 0 < length row = some_from_test row c.is_empty.result c.is_empty.ensures c.if-is_empty.false in
    let line = subst IsOneLine (put_after mid done.puts.text _ c.hold_row-at.result (omega arith) done.puts.put)
    (c.is_one_line.ensures c.if-is_one_line.true) in
    let ending : line.line ++ (replicate returns 13 ++ 10 ∷ []) ≡ line.line ++ 10 ∷ []
    = ap (λ n. line.line ++ (replicate n 13 ++ 10 ∷ [])) c.if-row-eq0.true in
    let front : List ℕ = held ++ (row ++ form.separator ∷ []) in
    puts_plain form answer a.state a.columns c.requires.known c.if-state-eq1.false silent a.bytes.now row
    c.in_ok-row.field.now held _ done.puts.text returns c.in_ok-index.index c.in_ok-row.ensures.is c.in_ok-index.ensures
    (omega (arith, c.if-end-size-ge-BLOCK.false)) some done.puts.is line done.closed
    (done.puts.put ∙ ap (λ l. l ++ done.puts.text) c.hold_row-at.ensures.held
    ∙ ap (λ l. front ++ l) (line.split ∙ sym ending))

pub returns-else-row-eq0-clause-some : goal.returns-else-row-eq0-clause-some
returns-else-row-eq0-clause-some g c =
    let a = c.args in
    let form = form_of_job g.F.RowFunction.counts_quotes a.job.now in
    let answer = g.F.RowFunction.answer_of a.job.now.function.now in
    let row = c.in_ok-row.row.body.now in
    let returns = c.in_ok-row.row.returns in
    let done = c.in-Some.ensures.some in
    let mid = c.hold_row-at.new.block in
    let held = take a.end a.block.now in
    let silent : form.shows_errors ≡ false = c.if-job.false in
    let some : 0 < length row = some_from_test row c.is_empty.result c.is_empty.ensures c.if-is_empty.false in
    let line = subst IsOneLine (put_after mid done.puts.text _ c.hold_row-at.result (omega arith) done.puts.put)
    (c.is_one_line.ensures c.if-is_one_line.true) in
    let ending : List ℕ = replicate returns 13 ++ 10 ∷ [] in
    let front : List ℕ = held ++ (row ++ form.separator ∷ []) in
    let at : List ℕ = take c.hold_row-at.result mid in
    let before : take (c.in-Some.last - 1) c.put_short.new.block ≡ at ++ line.line =
    before_feed c.put_short.new.block (at ++ line.line) c.in-Some.last
    (omega (arith, c.in-Some.ensures.end, c.if-end-size-ge-BLOCK.false, c.hold_row-at.ensures.end))
    (done.puts.put ∙ ap (λ l. at ++ l) line.split ∙ sym (append_assoc at line.line (10 ∷ []))) in
    puts_plain form answer a.state a.columns c.requires.known c.if-state-eq1.false silent a.bytes.now row
    c.in_ok-row.field.now held _ done.puts.text returns c.in_ok-index.index c.in_ok-row.ensures.is c.in_ok-index.ensures
    (omega (arith, c.if-end-size-ge-BLOCK.false)) some done.puts.is line done.closed
    (c.hold_ending-last.ensures.held
    ∙ ap (λ l. l ++ ending) (before ∙ ap (λ l. l ++ line.line) c.hold_row-at.ensures.held)
    ∙ append_assoc front line.line ending)

pub returns-in_default-clause-none : goal.returns-in_default-clause-none
returns-in_default-clause-none g c =
    let done = c.in-Some.ensures.some in
    front_kept c.put_short.new.block c.args.block.now _ c.args.end c.in-Some.last
    (omega (arith, c.told-block, c.requires.within))
    (done.puts.put ∙ ap (λ l. l ++ done.puts.text) c.hold_row-at.ensures.held
    ∙ append_assoc (take c.args.end c.args.block.now) _ done.puts.text)

pub returns-in_default-2-clause-none : goal.returns-in_default-2-clause-none
returns-in_default-2-clause-none g c =
    front_kept c.put_short.new.block c.args.block.now _ c.args.end c.hold_row-at.result
    (omega (arith, c.told-block, c.requires.within)) (c.in_default.ensures.none ∙ c.hold_row-at.ensures.held)
