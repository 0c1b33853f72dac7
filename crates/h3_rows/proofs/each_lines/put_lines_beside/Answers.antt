use Rattle.std.proofs.Common.{false, ◌≡◌, ◌∷◌, ◌++◌, ◌+◌, [], length, drop, take, ◌∙◌, ap, append-nil, append_assoc, subst, sym}
use Rattle.std.proofs.lemmas.Grind.{flat_map-append}
use Rattle.std.proofs.lemmas.Result.{err_from_is_err_and}
use Rattle.std.specs.Iterator.{Yields}
use Rattle.std.specs.List.{flat_map}
use Rattle.h3_lines.specs.Answering.{Breaks, Moves}
use Rattle.h3_lines.specs.Write.{sink_use}
use Rattle.h3_rows.specs.Line.{line_of}
use Rattle.h3_rows.specs.RowsAnswer.{rows_with}
use Rattle.h3_lines.specs.EachLaws.{breaks_more, breaks_then, moves_none, moves_then}
use Rattle.h3_rows.proofs.Beside.{all_lines, with_more}
use Rattle.h3_lines.specs.ItemLaws.{split_at, whole_at}
use Rattle.h3_rows.proofs.each_lines.put_lines_beside.Goals as goal

pub loop-item-init : goal.loop-item-init
loop-item-init g c = record {
  within = c.requires.within;
  moves =
      subst
      (λ l. Moves g.W.Sink.taken g.W.Sink.has_failed l (take c.args.end c.args.block.now) c.args.out.now c.args.out.now)
      (sym (append-nil (take c.args.end c.args.block.now))) (moves_none g.W.Sink.taken g.W.Sink.has_failed _ _);
}

pub loop-item-preserved : goal.loop-item-preserved
loop-item-preserved g c =
    let held = take c.args.end c.args.block.now in
    let line = g.L.Line.line_of in
    let done = flat_map line c.loop-item.yielded in
    let before = rows_with c.args.separator false c.args.after.now (line_of c.args.row) done in
    let one = rows_with c.args.separator false c.args.after.now (line_of c.args.row) (line c.in-Some.item) in
    let after = take c.in_ok-last.last c.put_rows.new.block in
    let own : Moves g.W.Sink.taken g.W.Sink.has_failed (take c.loop-item.last c.loop-item.block ++ one) after
    c.loop-item.out c.put_rows.new.out =
    subst
    (λ t.
    Moves g.W.Sink.taken g.W.Sink.has_failed
    (take c.loop-item.last c.loop-item.block
    ++ rows_with c.args.separator false c.args.after.now (line_of c.args.row) t)
    after c.loop-item.out c.put_rows.new.out)
    c.put-size.ensures.line c.in_ok-last.ensures.ok in
    let more : before ++ one
    ≡ rows_with c.args.separator false c.args.after.now (line_of c.args.row)
    (flat_map line (c.loop-item.yielded ++ c.in-Some.item ∷ [])) =
    sym (with_more c.args.separator c.args.after.now (line_of c.args.row) done (line c.in-Some.item)
    (all_lines line g.met.L.Line.are_lines c.loop-item.yielded))
    ∙ ap (λ t. rows_with c.args.separator false c.args.after.now (line_of c.args.row) (done ++ t))
    (sym (append-nil (line c.in-Some.item)))
    ∙ ap (rows_with c.args.separator false c.args.after.now (line_of c.args.row))
    (sym (flat_map-append line c.loop-item.yielded (c.in-Some.item ∷ []))) in
    record {
      within = c.in_ok-last.ensures.within;
      moves =
          subst (λ l. Moves g.W.Sink.taken g.W.Sink.has_failed l after c.args.out.now c.put_rows.new.out)
          (append_assoc held before one ∙ ap (λ l. held ++ l) more)
          (moves_then g.W.Sink.taken g.W.Sink.has_failed
          (held ++ before) _ one _ _ _ _ c.loop-item.invariant.moves own);
    }

pub returns-in_err-last-clause-err : goal.returns-in_err-last-clause-err
returns-in_err-last-clause-err g c =
    let p = err_from_is_err_and c.from_residual.result c.from_residual.ensures.1 in
    let held = take c.args.end c.args.block.now in
    let out = sink_use g.W.Sink.taken g.W.Sink.has_failed c.args.out.now c.put_rows.new.out in
    let line = g.L.Line.line_of in
    let done = flat_map line c.loop-item.yielded in
    let before = rows_with c.args.separator false c.args.after.now (line_of c.args.row) done in
    let one = rows_with c.args.separator false c.args.after.now (line_of c.args.row) (line c.in-Some.item) in
    let own : Breaks (take c.loop-item.last c.loop-item.block ++ one)
    (sink_use g.W.Sink.taken g.W.Sink.has_failed c.loop-item.out c.put_rows.new.out) c.in_err-last.field-0.0 =
    subst
    (λ t.
    Breaks
    (take c.loop-item.last c.loop-item.block
    ++ rows_with c.args.separator false c.args.after.now (line_of c.args.row) t)
    (sink_use g.W.Sink.taken g.W.Sink.has_failed c.loop-item.out c.put_rows.new.out)
    c.in_err-last.field-0.0)
    c.put-size.ensures.line c.in_err-last.ensures.err in
    rw (p.1, p.2) (λ all e.
    let so_far : Yields g.I.Iterator.next_gives c.into_iter-item-iterator.result c.loop-item.yielded
    c.loop-item.item-iterator =
    c.loop-item.yielded_by in
    let split =
    split_at g.I.Iterator.next_gives e _ c.into_iter-item-iterator.ensures.into_iter_gives _ _ so_far _ _
    c.in-Some.ensures.steps in
    let later = flat_map line (drop (length c.loop-item.yielded + 1) all) in
    let rest = rows_with c.args.separator false c.args.after.now (line_of c.args.row) later in
    let text : rows_with c.args.separator false c.args.after.now (line_of c.args.row) (flat_map line all)
    ≡ before ++ (one ++ rest) =
    ap (λ l. rows_with c.args.separator false c.args.after.now (line_of c.args.row) (flat_map line l)) split
    ∙ ap (rows_with c.args.separator false c.args.after.now (line_of c.args.row))
    (flat_map-append line c.loop-item.yielded (c.in-Some.item ∷ drop (length c.loop-item.yielded + 1) all))
    ∙ with_more c.args.separator c.args.after.now (line_of c.args.row) done (line c.in-Some.item ++ later)
    (all_lines line g.met.L.Line.are_lines c.loop-item.yielded)
    ∙ ap (λ l. before ++ l) (with_more c.args.separator c.args.after.now (line_of c.args.row) (line c.in-Some.item)
    later (g.met.L.Line.are_lines c.in-Some.item)) in
    subst (λ l. Breaks l out c.in_err-last.field-0.0) (append_assoc (held ++ before) one rest
    ∙ append_assoc held before (one ++ rest) ∙ ap (λ l. held ++ l) (sym text))
    (breaks_more ((held ++ before) ++ one) rest out _ (breaks_then g.W.Sink.taken g.W.Sink.has_failed (held ++ before) _
    one _ _ _ _ c.loop-item.invariant.moves own)))

pub returns-clause-ok : goal.returns-clause-ok
returns-clause-ok g c all e =
    let so_far : Yields g.I.Iterator.next_gives c.into_iter-item-iterator.result c.loop-item.yielded
    c.loop-item.item-iterator =
    c.loop-item.yielded_by in
    let split =
    whole_at g.I.Iterator.next_gives e _ c.into_iter-item-iterator.ensures.into_iter_gives _ _ so_far _
    c.in-None.ensures.steps in
    let same : c.loop-item.yielded ≡ all = sym (append-nil c.loop-item.yielded) ∙ sym split in
    subst (λ l. Moves g.W.Sink.taken g.W.Sink.has_failed (take c.args.end c.args.block.now ++ rows_with c.args.separator
    false c.args.after.now (line_of c.args.row) (flat_map g.L.Line.line_of l)) (take
    c.loop-item.last c.loop-item.block) c.args.out.now c.loop-item.out) same c.loop-item.invariant.moves
