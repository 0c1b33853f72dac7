use Rattle.std.proofs.Common.{◌≡◌, ℕ, Bool, List, ◌∷◌, ◌++◌, [], take, ap, append-nil, sym, subst}
use Rattle.std.proofs.lemmas.Result.{IfOk-weaker, IfErr-weaker}
use Rattle.h3_lines.specs.Answering.{Breaks, Moves}
use Rattle.h3_lines.specs.EachLaws.{moves_none}
use Rattle.h3_lines.specs.Write.{sink_use}
use Rattle.h3_rows.specs.RowForm.{columns_form}
use Rattle.h3_rows.specs.RowsAnswer.{error_field}
use Rattle.h3_rows.proofs.put.put_error.Goals as goal

pub returns-then-options-clause-ok : goal.returns-then-options-clause-ok
returns-then-options-clause-ok g c =
    let held = take c.args.end c.args.block.now in
    let sep = c.args.options.now.separator in
    let is : (name : List ℕ) (is_pair : Bool)
    → sep ∷ (c.args.error.now ++ []) ≡ error_field (columns_form c.args.options.now name is_pair) c.args.error.now =
    λ name is_pair. rw c.if-options.true (ap (λ l. sep ∷ l) (append-nil c.args.error.now)) in
    IfOk-weaker c.put_field.result _ _ (λ last k name is_pair. subst
    (λ l. Moves g.W.Sink.taken g.W.Sink.has_failed (held ++ l) (take last c.put_field.new.block) c.args.out.now
    c.put_field.new.out) (is name is_pair) k) c.put_field.ensures.ok

pub returns-then-options-clause-err : goal.returns-then-options-clause-err
returns-then-options-clause-err g c =
    let held = take c.args.end c.args.block.now in
    let sep = c.args.options.now.separator in
    let is : (name : List ℕ) (is_pair : Bool)
    → sep ∷ (c.args.error.now ++ []) ≡ error_field (columns_form c.args.options.now name is_pair) c.args.error.now =
    λ name is_pair. rw c.if-options.true (ap (λ l. sep ∷ l) (append-nil c.args.error.now)) in
    IfErr-weaker c.put_field.result _ _ (λ e k name is_pair. subst
    (λ l. Breaks (held ++ l) (sink_use g.W.Sink.taken g.W.Sink.has_failed c.args.out.now c.put_field.new.out) e)
    (is name is_pair) k) c.put_field.ensures.err

pub returns-clause-ok : goal.returns-clause-ok
returns-clause-ok g c name is_pair =
    let held = take c.args.end c.args.block.now in
    rw c.if-options.false (subst (λ l. Moves g.W.Sink.taken g.W.Sink.has_failed l held c.args.out.now c.args.out.now)
    (sym (append-nil held)) (moves_none g.W.Sink.taken g.W.Sink.has_failed held c.args.out.now))
