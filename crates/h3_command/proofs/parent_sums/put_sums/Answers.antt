use Rattle.std.proofs.Common.{◌≡◌, ◌∙◌, ◌++◌, ◌∷◌, [], ap, arith, get_or, length, subst, sym, take}
use Rattle.std.specs.List.{flat_map}
use Rattle.std.proofs.lemmas.List.{length-map}
use Rattle.std.proofs.lemmas.Result.{err_from_is_err_and}
use Rattle.h3_index.specs.Cell.{Address, number_of}
use Rattle.h3_index.specs.Text.{text_of}
use Rattle.h3_lines.specs.Answering.{FailsPush, Moves}
use Rattle.h3_lines.specs.Write.{sink_use}
use Rattle.h3_numbers.specs.declared.number.Number.{Number}
use Rattle.h3_command.specs.AreaSums.{cells_in}
use Rattle.h3_command.specs.ParentEntries.{amounts_of}
use Rattle.h3_command.specs.ParentRuns.{ArePut, IsRun}
use Rattle.h3_command.specs.ParentSums.{parent_sum, parent_sums}
use Rattle.h3_command.specs.SumTables.{sum_row}
use Rattle.h3_command.proofs.AncestorRows.{row_fails, row_put}
use Rattle.h3_command.proofs.AncestorRuns.{all_put, more_put}
use Rattle.h3_command.proofs.AncestorSums.{amounts_ascend, first_amount, own_amounts, summed_run}
use Rattle.h3_command.proofs.parent_sums.put_sums.Goals as goal

pub run_sum-sum-requires-clause-in_order : goal.run_sum-sum-requires-clause-in_order
run_sum-sum-requires-clause-in_order g c = let some = c.run_end-next.ensures.some in omega (arith, some)

pub run_sum-sum-requires-clause-within : goal.run_sum-sum-requires-clause-within
run_sum-sum-requires-clause-within g c =
    let size = length-map c.args.pairs.now (λ p. p.0) in
    let within = c.run_end-next.ensures.within in
    omega (arith, within, size)

pub loop-place-preserved : goal.loop-place-preserved
loop-place-preserved g c =
    let pairs = c.args.pairs.now in
    let amounts = amounts_of pairs in
    let cells = cells_in amounts in
    let order = amounts_ascend pairs c.requires.in_order in
    let inv = c.loop-place.invariant in
    let place = c.loop-place.place in
    let next = c.run_end-next.result in
    let cell = c.index-pairs-place.result.0 in
    let run : IsRun cells place next =
    subst (λ l. IsRun l place next) (own_amounts pairs) c.run_end-next.ensures in
    let is : cell ≡ get_or cells place cell =
    first_amount pairs place c.index-pairs-place.result c.loop-place-test.true (sym c.index-pairs-place.is) in
    let row =
    summed_run amounts order place next inv.rows inv.put run cell is _ c.run_sum-sum.result
    (c.index_bytes-size.ensures.text ∙ ap text_of c.raw.ensures.number
    ∙ ap (λ (q : Address × Number). text_of (number_of q.0)) (sym c.index-pairs-place.is))
    c.run_sum-sum.ensures.count c.run_sum-sum.ensures.units in
    let held = take c.loop-place.last c.loop-place.block in
    let one =
    subst (λ r. Moves g.W.Sink.taken g.W.Sink.has_failed (held ++ sum_row c.args.separator r)
    (take c.in_ok-last.last c.put_row.new.block) c.loop-place.out c.put_row.new.out) row c.in_ok-last.ensures.ok in
    record {
      within = c.in_ok-last.ensures.within;
      rows = inv.rows ++ parent_sum amounts cell ∷ [];
      put =
          subst (λ a. ArePut (parent_sum amounts) cells next (inv.rows ++ parent_sum amounts a ∷ [])) (sym is)
          (more_put (parent_sum amounts) cells order place next inv.rows inv.put run cell);
      moves =
          row_put (sum_row c.args.separator) inv.rows (parent_sum amounts cell) g.W.Sink.taken g.W.Sink.has_failed
          (take c.args.end c.args.block.now) held _ _ _ inv.moves _ one;
    }

pub returns-in_err-last-clause-err : goal.returns-in_err-last-clause-err
returns-in_err-last-clause-err g c =
    let p = err_from_is_err_and c.from_residual.result c.from_residual.ensures.1 in
    let pairs = c.args.pairs.now in
    let amounts = amounts_of pairs in
    let cells = cells_in amounts in
    let order = amounts_ascend pairs c.requires.in_order in
    let inv = c.loop-place.invariant in
    let place = c.loop-place.place in
    let next = c.run_end-next.result in
    let cell = c.index-pairs-place.result.0 in
    let run : IsRun cells place next =
    subst (λ l. IsRun l place next) (own_amounts pairs) c.run_end-next.ensures in
    let is : cell ≡ get_or cells place cell =
    first_amount pairs place c.index-pairs-place.result c.loop-place-test.true (sym c.index-pairs-place.is) in
    let row =
    summed_run amounts order place next inv.rows inv.put run cell is _ c.run_sum-sum.result
    (c.index_bytes-size.ensures.text ∙ ap text_of c.raw.ensures.number
    ∙ ap (λ (q : Address × Number). text_of (number_of q.0)) (sym c.index-pairs-place.is))
    c.run_sum-sum.ensures.count c.run_sum-sum.ensures.units in
    let held = take c.loop-place.last c.loop-place.block in
    let fails =
    subst (λ r. FailsPush (held ++ sum_row c.args.separator r)
    (sink_use g.W.Sink.taken g.W.Sink.has_failed c.loop-place.out c.put_row.new.out)) row c.in_err-last.ensures.err in
    let put : ArePut (parent_sum amounts) cells next (inv.rows ++ parent_sum amounts cell ∷ []) =
    subst (λ a. ArePut (parent_sum amounts) cells next (inv.rows ++ parent_sum amounts a ∷ [])) (sym is)
    (more_put (parent_sum amounts) cells order place next inv.rows inv.put run cell) in
    rw p.1 (row_fails (sum_row c.args.separator) inv.rows (parent_sum amounts cell) g.W.Sink.taken g.W.Sink.has_failed
    (take c.args.end c.args.block.now) held _ _ _ inv.moves (parent_sums amounts) _ put.split fails)

pub returns-clause-ok : goal.returns-clause-ok
returns-clause-ok g c =
    let pairs = c.args.pairs.now in
    let amounts = amounts_of pairs in
    let inv = c.loop-place.invariant in
    let size = length-map pairs (λ p. p.0) in
    let long : length (cells_in amounts) ≡ length pairs = sym (ap length (own_amounts pairs)) ∙ size in
    let last = c.loop-place-test.false in
    let all : parent_sums amounts ≡ inv.rows =
    all_put (parent_sum amounts) (cells_in amounts) c.loop-place.place inv.rows inv.put (omega (arith, last, long)) in
    subst (λ rows. Moves g.W.Sink.taken g.W.Sink.has_failed
    (take c.args.end c.args.block.now ++ flat_map (sum_row c.args.separator) rows)
    (take c.loop-place.last c.loop-place.block) c.args.out.now c.loop-place.out) (sym all) inv.moves
