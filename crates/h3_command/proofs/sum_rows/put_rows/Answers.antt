use Rattle.std.proofs.Common.{◌≡◌, ◌++◌, append-nil, arith, length, map, subst, sym, take}
use Rattle.std.proofs.lemmas.Result.{err_from_is_err_and}
use Rattle.std.specs.List.{flat_map, range_with_len}
use Rattle.h3_lines.specs.Answering.{FailsPush, Moves}
use Rattle.h3_lines.specs.EachLaws.{moves_none}
use Rattle.h3_lines.specs.Write.{sink_use}
use Rattle.h3_command.specs.SumRows.{named_row, values_of}
use Rattle.h3_command.specs.SumTables.{sum_row}
use Rattle.h3_command.proofs.RowsPut.{line_fails, line_put, row_there}
use Rattle.h3_command.proofs.sum_rows.put_rows.Goals as goal

pub loop-number-init : goal.loop-number-init
loop-number-init g c = record {
  within = c.requires.within;
  moves =
      subst
      (λ l. Moves g.W.Sink.taken g.W.Sink.has_failed l (take c.args.end c.args.block.now) c.args.out.now c.args.out.now)
      (sym (append-nil (take c.args.end c.args.block.now))) (moves_none g.W.Sink.taken g.W.Sink.has_failed _ _);
}

pub put_row-requires : goal.put_row-requires
put_row-requires g c = c.loop-number.invariant.within

pub loop-number-preserved : goal.loop-number-preserved
loop-number-preserved g c =
    let names = g.N.RowNames.names c.args.names.now in
    let number = c.loop-number.number in
    let held = take c.loop-number.last c.loop-number.block in
    let same =
    row_there names c.args.sums.now number c.index-sums-number.result c.loop-number-test.true c.index-sums-number.is
    c.name.result.now c.name.ensures in
    let row =
    subst (λ r. Moves g.W.Sink.taken g.W.Sink.has_failed (held ++ sum_row c.args.separator r)
    (take c.in_ok-last.last c.put_row.new.block)
    c.loop-number.out c.put_row.new.out) same c.in_ok-last.ensures.ok in
    record {
      within = c.in_ok-last.ensures.within;
      moves =
          line_put (sum_row c.args.separator) (named_row names (values_of c.args.sums.now)) g.W.Sink.taken
          g.W.Sink.has_failed _ number held _ _ _ c.loop-number.invariant.moves _ row;
    }

pub returns-in_err-last-clause-err : goal.returns-in_err-last-clause-err
returns-in_err-last-clause-err g c =
    let p = err_from_is_err_and c.from_residual.result c.from_residual.ensures.1 in
    let names = g.N.RowNames.names c.args.names.now in
    let number = c.loop-number.number in
    let held = take c.loop-number.last c.loop-number.block in
    let out = sink_use g.W.Sink.taken g.W.Sink.has_failed c.loop-number.out c.put_row.new.out in
    let same =
    row_there names c.args.sums.now number c.index-sums-number.result c.loop-number-test.true c.index-sums-number.is
    c.name.result.now c.name.ensures in
    let fails = subst (λ r. FailsPush (held ++ sum_row c.args.separator r) out) same c.in_err-last.ensures.err in
    rw p.1 (line_fails (sum_row c.args.separator) (named_row names (values_of c.args.sums.now)) g.W.Sink.taken
    g.W.Sink.has_failed _ number held _ _ _ c.loop-number.invariant.moves (length c.args.sums.now)
    c.loop-number-test.true fails)

pub returns-clause-ok : goal.returns-clause-ok
returns-clause-ok g c =
    let names = g.N.RowNames.names c.args.names.now in
    let start = take c.args.end c.args.block.now in
    let all : c.loop-number.number ≡ length c.args.sums.now =
    omega (arith, c.loop-number-test.false, c.loop-number.auto.number-end) in
    subst (λ n. Moves g.W.Sink.taken g.W.Sink.has_failed (start ++ flat_map (sum_row c.args.separator)
    (map (named_row names (values_of c.args.sums.now)) (range_with_len 0 n))) (take
    c.loop-number.last c.loop-number.block) c.args.out.now c.loop-number.out) all c.loop-number.invariant.moves
