use Rattle.std.proofs.Common.{◌≡◌, ◌∷◌, ◌++◌, ◌+◌, length, drop, take, ◌∙◌, ap, append-nil, append_assoc, subst, sym}
use Rattle.std.proofs.lemmas.Grind.{flat_map-append}
use Rattle.std.proofs.lemmas.List.{flat_map_more}
use Rattle.std.proofs.lemmas.Result.{err_from_is_err_and}
use Rattle.std.specs.Iterator.{Yields}
use Rattle.std.specs.List.{flat_map}
use Rattle.h3_lines.specs.Answering.{FailsPush, Moves}
use Rattle.h3_lines.specs.EachLaws.{moves_none, moves_then, push_more, push_then}
use Rattle.h3_lines.specs.ItemLaws.{split_at, whole_at}
use Rattle.h3_lines.specs.Write.{sink_use}
use Rattle.h3_command.specs.By.{value_line, value_lines}
use Rattle.h3_command.proofs.by_lists.put_rows.Goals as goal

pub loop-cell-init : goal.loop-cell-init
loop-cell-init g c = record {
  within = c.requires.within;
  moves =
      subst
      (λ l. Moves g.W.Sink.taken g.W.Sink.has_failed l (take c.args.end c.args.block.now) c.args.out.now c.args.out.now)
      (sym (append-nil (take c.args.end c.args.block.now))) (moves_none g.W.Sink.taken g.W.Sink.has_failed _ _);
}

pub loop-cell-preserved : goal.loop-cell-preserved
loop-cell-preserved g c =
    let held = take c.args.end c.args.block.now in
    let line = value_line c.args.separator c.args.value.now in
    record {
      within = c.in_ok-last.ensures.within;
      moves =
          subst
          (λ l. Moves g.W.Sink.taken g.W.Sink.has_failed l (take c.in_ok-last.last c.put_row.new.block) c.args.out.now
          c.put_row.new.out) (flat_map_more line held c.loop-cell.yielded c.in-Some.cell)
          (moves_then g.W.Sink.taken g.W.Sink.has_failed (held ++ flat_map line c.loop-cell.yielded) _
          (line c.in-Some.cell) _ _ _ _ c.loop-cell.invariant.moves c.in_ok-last.ensures.ok);
    }

pub returns-in_err-last-clause-err : goal.returns-in_err-last-clause-err
returns-in_err-last-clause-err g c =
    let p = err_from_is_err_and c.from_residual.result c.from_residual.ensures.1 in
    let held = take c.args.end c.args.block.now in
    let line = value_line c.args.separator c.args.value.now in
    let out = sink_use g.W.Sink.taken g.W.Sink.has_failed c.args.out.now c.put_row.new.out in
    rw p.1 (λ all e.
    let so_far : Yields g.I.Iterator.next_gives c.into_iter-cell-iterator.result c.loop-cell.yielded
    c.loop-cell.cell-iterator =
    c.loop-cell.yielded_by in
    let split =
    split_at g.I.Iterator.next_gives e _ c.into_iter-cell-iterator.ensures.into_iter_gives _ _ so_far _ _
    c.in-Some.ensures.steps in
    let done = flat_map line c.loop-cell.yielded in
    let later = flat_map line (drop (length c.loop-cell.yielded + 1) all) in
    let rest = flat_map line (c.in-Some.cell ∷ drop (length c.loop-cell.yielded + 1) all) in
    let text : flat_map line all ≡ done ++ rest =
    ap (flat_map line) split
    ∙ flat_map-append line c.loop-cell.yielded (c.in-Some.cell ∷ drop (length c.loop-cell.yielded + 1) all) in
    subst (λ l. FailsPush l out) (append_assoc held done rest ∙ ap (λ l. held ++ l) (sym text))
    (push_then g.W.Sink.taken g.W.Sink.has_failed (held ++ done) _ rest _ _ _ c.loop-cell.invariant.moves
    (subst (λ l. FailsPush l (sink_use g.W.Sink.taken g.W.Sink.has_failed c.loop-cell.out c.put_row.new.out))
    (append_assoc _ (line c.in-Some.cell) later)
    (push_more _ later (sink_use g.W.Sink.taken g.W.Sink.has_failed c.loop-cell.out c.put_row.new.out)
    c.in_err-last.ensures.err))))

pub returns-clause-ok : goal.returns-clause-ok
returns-clause-ok g c all e =
    let so_far : Yields g.I.Iterator.next_gives c.into_iter-cell-iterator.result c.loop-cell.yielded
    c.loop-cell.cell-iterator =
    c.loop-cell.yielded_by in
    let split =
    whole_at g.I.Iterator.next_gives e _ c.into_iter-cell-iterator.ensures.into_iter_gives _ _ so_far _
    c.in-None.ensures.steps in
    let same : c.loop-cell.yielded ≡ all = sym (append-nil c.loop-cell.yielded) ∙ sym split in
    subst (λ l. Moves g.W.Sink.taken g.W.Sink.has_failed
    (take c.args.end c.args.block.now ++ value_lines c.args.separator c.args.value.now l)
    (take c.loop-cell.last c.loop-cell.block) c.args.out.now c.loop-cell.out) same c.loop-cell.invariant.moves
