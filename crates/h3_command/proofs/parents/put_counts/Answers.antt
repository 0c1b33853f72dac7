use Rattle.std.proofs.Common.{◌∙◌, ◌++◌, ◌∷◌, [], ap, subst, sym, take}
use Rattle.std.proofs.lemmas.Result.{err_from_is_err_and}
use Rattle.h3_index.specs.Text.{text_of}
use Rattle.h3_lines.specs.Answering.{FailsPush, Moves}
use Rattle.h3_lines.specs.Write.{sink_use}
use Rattle.h3_command.specs.AreaCounts.{count_row}
use Rattle.h3_command.specs.ParentRuns.{ArePut, IsRun}
use Rattle.h3_command.specs.Parents.{parent_count, parent_counts}
use Rattle.h3_command.proofs.AncestorRows.{row_fails, row_put}
use Rattle.h3_command.proofs.AncestorRuns.{counted_run, more_put, own_cells}
use Rattle.h3_command.proofs.parents.put_counts.Goals as goal

pub loop-place-preserved : goal.loop-place-preserved
loop-place-preserved g c =
    let cells = c.args.cells.now in
    let inv = c.loop-place.invariant in
    let place = c.loop-place.place in
    let next = c.run_end-next.result in
    let cell = c.index-cells-place.result in
    let run : IsRun cells place next =
    subst (λ l. IsRun l place next) (own_cells cells) c.run_end-next.ensures in
    let row =
    counted_run cells c.requires.in_order place next inv.rows inv.put run cell c.index-cells-place.is _
    (c.index_bytes-size.ensures.text ∙ ap text_of c.raw.ensures.number) in
    let held = take c.loop-place.last c.loop-place.block in
    let one =
    subst (λ r. Moves g.W.Sink.taken g.W.Sink.has_failed (held ++ count_row c.args.separator r)
    (take c.in_ok-last.last c.put_row.new.block) c.loop-place.out c.put_row.new.out) row c.in_ok-last.ensures.ok in
    record {
      within = c.in_ok-last.ensures.within;
      rows = inv.rows ++ parent_count cells cell ∷ [];
      put =
          subst (λ a. ArePut (parent_count cells) cells next (inv.rows ++ parent_count cells a ∷ []))
          (sym c.index-cells-place.is)
          (more_put (parent_count cells) cells c.requires.in_order place next inv.rows inv.put run cell);
      moves =
          row_put (count_row c.args.separator) inv.rows (parent_count cells cell) g.W.Sink.taken g.W.Sink.has_failed
          (take c.args.end c.args.block.now) held _ _ _ inv.moves _ one;
    }

pub returns-in_err-last-clause-err : goal.returns-in_err-last-clause-err
returns-in_err-last-clause-err g c =
    let p = err_from_is_err_and c.from_residual.result c.from_residual.ensures.1 in
    let cells = c.args.cells.now in
    let inv = c.loop-place.invariant in
    let place = c.loop-place.place in
    let next = c.run_end-next.result in
    let cell = c.index-cells-place.result in
    let run : IsRun cells place next =
    subst (λ l. IsRun l place next) (own_cells cells) c.run_end-next.ensures in
    let row =
    counted_run cells c.requires.in_order place next inv.rows inv.put run cell c.index-cells-place.is _
    (c.index_bytes-size.ensures.text ∙ ap text_of c.raw.ensures.number) in
    let held = take c.loop-place.last c.loop-place.block in
    let fails =
    subst (λ r. FailsPush (held ++ count_row c.args.separator r)
    (sink_use g.W.Sink.taken g.W.Sink.has_failed c.loop-place.out c.put_row.new.out)) row c.in_err-last.ensures.err in
    let put : ArePut (parent_count cells) cells next (inv.rows ++ parent_count cells cell ∷ []) =
    subst (λ a. ArePut (parent_count cells) cells next (inv.rows ++ parent_count cells a ∷ []))
    (sym c.index-cells-place.is)
    (more_put (parent_count cells) cells c.requires.in_order place next inv.rows inv.put run cell) in
    rw p.1 (row_fails (count_row c.args.separator) inv.rows (parent_count cells cell) g.W.Sink.taken g.W.Sink.has_failed
    (take c.args.end c.args.block.now) held _ _ _ inv.moves (parent_counts cells) _ put.split fails)
