use Rattle.std.proofs.Common.{◌≡◌, ◌∷◌, ◌++◌, ◌+◌, length, drop, take, arith, ◌∙◌, ap, append-nil, append_assoc, subst, sym}
use Rattle.std.proofs.lemmas.Grind.{flat_map-append}
use Rattle.std.proofs.lemmas.List.{flat_map_more}
use Rattle.std.proofs.lemmas.Result.{err_from_is_err_and}
use Rattle.std.specs.Iterator.{Yields}
use Rattle.std.specs.List.{flat_map}
use Rattle.h3_lines.specs.Answering.{FailsPush, Moves}
use Rattle.h3_lines.specs.Write.{sink_use}
use Rattle.h3_lines.specs.EachLaws.{moves_none, moves_put, push_more, push_then}
use Rattle.h3_lines.proofs.AnsweredLines.{moves_on}
use Rattle.h3_lines.specs.ItemLaws.{split_at, whole_at}
use Rattle.h3_lines.proofs.write.put_lines.Goals as goal

pub loop-item-init : goal.loop-item-init
loop-item-init g c = record {
  within = c.requires.within;
  moves =
      subst
      (λ l. Moves g.W.Sink.taken g.W.Sink.has_failed l (take c.args.end c.args.block.now) c.args.out.now c.args.out.now)
      (sym (append-nil (take c.args.end c.args.block.now))) (moves_none g.W.Sink.taken g.W.Sink.has_failed _ _);
}

pub loop-item-preserved : goal.loop-item-preserved
loop-item-preserved g c =
    let held = take c.args.end c.args.block.now in
    let line = g.L.Line.line_of c.in-Some.item in
    let done = flat_map g.L.Line.line_of c.loop-item.yielded in
    let mid = take c.in_ok-last.last c.make_room.new.block in
    let room : Moves g.W.Sink.taken g.W.Sink.has_failed (held ++ done) mid c.args.out.now c.make_room.new.out =
    moves_on g.W.Sink.taken g.W.Sink.has_failed _ _ _ _ _ _ c.loop-item.invariant.moves c.in_ok-last.ensures.ok in
    record {
      within = omega (arith, c.in_ok-last.ensures.room, c.put-last.ensures.end);
      moves =
          subst
          (λ l. Moves g.W.Sink.taken g.W.Sink.has_failed l (take c.put-last.result c.put-last.new.block) c.args.out.now
          c.make_room.new.out) (flat_map_more g.L.Line.line_of held c.loop-item.yielded c.in-Some.item)
          (moves_put g.W.Sink.taken g.W.Sink.has_failed (held ++ done) mid line _ _ _ room c.put-last.ensures.line);
    }

pub returns-in_err-last-clause-err : goal.returns-in_err-last-clause-err
returns-in_err-last-clause-err g c =
    let p = err_from_is_err_and c.from_residual.result c.from_residual.ensures.1 in
    let held = take c.args.end c.args.block.now in
    let out = sink_use g.W.Sink.taken g.W.Sink.has_failed c.args.out.now c.make_room.new.out in
    rw p.1 (λ all e.
    let so_far : Yields g.I.Iterator.next_gives c.into_iter-item-iterator.result c.loop-item.yielded
    c.loop-item.item-iterator =
    c.loop-item.yielded_by in
    let split =
    split_at g.I.Iterator.next_gives e _ c.into_iter-item-iterator.ensures.into_iter_gives _ _ so_far _ _
    c.in-Some.ensures.steps in
    let done = flat_map g.L.Line.line_of c.loop-item.yielded in
    let rest = flat_map g.L.Line.line_of (c.in-Some.item ∷ drop (length c.loop-item.yielded + 1) all) in
    let text : flat_map g.L.Line.line_of all ≡ done ++ rest =
    ap (flat_map g.L.Line.line_of) split
    ∙ flat_map-append g.L.Line.line_of c.loop-item.yielded
    (c.in-Some.item ∷ drop (length c.loop-item.yielded + 1) all) in
    subst (λ l. FailsPush l out) (append_assoc held done rest ∙ ap (λ l. held ++ l) (sym text))
    (push_then g.W.Sink.taken g.W.Sink.has_failed (held ++ done) _ rest _ _ _ c.loop-item.invariant.moves
    (push_more _ rest (sink_use g.W.Sink.taken g.W.Sink.has_failed c.loop-item.out c.make_room.new.out)
    c.in_err-last.ensures.err)))

pub returns-clause-ok : goal.returns-clause-ok
returns-clause-ok g c all e =
    let so_far : Yields g.I.Iterator.next_gives c.into_iter-item-iterator.result c.loop-item.yielded
    c.loop-item.item-iterator =
    c.loop-item.yielded_by in
    let split =
    whole_at g.I.Iterator.next_gives e _ c.into_iter-item-iterator.ensures.into_iter_gives _ _ so_far _
    c.in-None.ensures.steps in
    let same : c.loop-item.yielded ≡ all = sym (append-nil c.loop-item.yielded) ∙ sym split in
    subst (λ l. Moves g.W.Sink.taken g.W.Sink.has_failed
    (take c.args.end c.args.block.now ++ flat_map g.L.Line.line_of l)
    (take c.loop-item.last c.loop-item.block) c.args.out.now c.loop-item.out) same c.loop-item.invariant.moves
