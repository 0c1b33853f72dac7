use Rattle.std.proofs.Common.{arith, ◌∙◌, [], refl, append-nil, sym, subst, take}
use Rattle.std.proofs.lemmas.Result.{err_from_is_err_and}
use Rattle.std.specs.Iterator.{Yields}
use Rattle.h3_lines.specs.Answer.{walked, written}
use Rattle.h3_lines.specs.Write.{Writes, sink_use}
use Rattle.h3_lines.proofs.Lines.{held_ends, held_more, held_none}
use Rattle.h3_lines.specs.ItemLaws.{split_at, whole_at}
use Rattle.h3_lines.proofs.Written.{begins_part}
use Rattle.h3_lines.proofs.write.write_walk.Goals as goal

pub loop-item-init : goal.loop-item-init
loop-item-init g c = record { held = held_none _ _; same = refl; within = omega arith }

pub loop-item-preserved : goal.loop-item-preserved
loop-item-preserved g c =
    let line = g.L.Line.line_of in record {
      held =
          held_more _ g.W.Sink.taken g.W.Sink.has_failed c.loop-item.invariant.held _ _ _
          (λ more. rw c.in-Ok.is refl) c.in_ok-end-in-Ok.ensures.ok c.put-end.ensures.line;
      same = c.in_ok-end-in-Ok.ensures.ok.sound ∙ c.loop-item.invariant.same;
      within = omega (arith, c.in_ok-end-in-Ok.ensures.room, c.put-end.ensures.end);
    }

pub returns-in_err-end-in-Ok : goal.returns-in_err-end-in-Ok
returns-in_err-end-in-Ok g c all e =
    let so_far : Yields g.I.Iterator.next_gives c.into_iter-item-iterator.result c.loop-item.yielded
    c.loop-item.item-iterator =
    c.loop-item.yielded_by in
    let split =
    split_at g.I.Iterator.next_gives e _ c.into_iter-item-iterator.ensures.into_iter_gives _ _ so_far _ _
    c.in-Some.ensures.steps in
    let p = err_from_is_err_and c.from_residual.result c.from_residual.ensures.1 in
    let out = sink_use g.W.Sink.taken g.W.Sink.has_failed c.loop-item.out c.make_room.new.out in
    rw (p.1, p.2) (held_ends (walked g.L.Line.line_of) g.W.Sink.taken g.W.Sink.has_failed c.args.out.now c.loop-item.out
    c.make_room.new.out c.loop-item.invariant.held all _ split c.loop-item.invariant.same _
    (begins_part _ _ out c.in_err-end-in-Ok.ensures.err))

pub returns-in-Err : goal.returns-in-Err
returns-in-Err g c all e =
    let so_far : Yields g.I.Iterator.next_gives c.into_iter-item-iterator.result c.loop-item.yielded
    c.loop-item.item-iterator =
    c.loop-item.yielded_by in
    let split =
    split_at g.I.Iterator.next_gives e _ c.into_iter-item-iterator.ensures.into_iter_gives _ _ so_far _ _
    c.in-Some.ensures.steps in
    let held = take c.loop-item.end c.loop-item.block in
    let out = sink_use g.W.Sink.taken g.W.Sink.has_failed c.loop-item.out c.write_refused.new.out in
    held_ends (walked g.L.Line.line_of) g.W.Sink.taken g.W.Sink.has_failed c.args.out.now c.loop-item.out
    c.write_refused.new.out c.loop-item.invariant.held all _ (rw c.in-Err.is at split) c.loop-item.invariant.same _
    c.write_refused.ensures

pub returns : goal.returns
returns g c all e =
    let so_far : Yields g.I.Iterator.next_gives c.into_iter-item-iterator.result c.loop-item.yielded
    c.loop-item.item-iterator =
    c.loop-item.yielded_by in
    let split =
    whole_at g.I.Iterator.next_gives e _ c.into_iter-item-iterator.ensures.into_iter_gives _ _ so_far _
    c.in-None.ensures.steps in
    let held = take c.loop-item.end c.loop-item.block in
    let out = sink_use g.W.Sink.taken g.W.Sink.has_failed c.loop-item.out c.write_answer.new.out in
    held_ends (walked g.L.Line.line_of) g.W.Sink.taken g.W.Sink.has_failed c.args.out.now c.loop-item.out
    c.write_answer.new.out c.loop-item.invariant.held all [] split c.loop-item.invariant.same _
    (subst (λ l. Writes (written l) c.write_answer.result out) (sym (append-nil held)) c.write_answer.ensures)
