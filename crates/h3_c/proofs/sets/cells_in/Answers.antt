use Rattle.std.proofs.Common.{rules, sym, ap, take, Some, arith, inr}
use Rattle.std.proofs.lemmas.List.{length-take}
use Rattle.std.proofs.lemmas.Result.{err_from_is_err_and}
use Rattle.h3_c.specs.Sets.{cells_in}
use Rattle.h3_c.proofs.CellsIn.{cells_in-length, cells_in-none, cells_in-snoc}
use Rattle.h3_c.proofs.sets.cells_in.Goals as goal

pub loop-index-init : goal.loop-index-init
unfolding cells_in
loop-index-init c = ap (λ cs. Some cs) (sym c.in-Ok.ensures.items)

pub returns-in_err-cell-clause-refused : goal.returns-in_err-cell-clause-refused
returns-in_err-cell-clause-refused c =
    let p = err_from_is_err_and c.from_residual.result c.from_residual.ensures.1 in
    rw (p.1, p.2) (inr (
      c.in_err-cell.ensures.refused.0,
      cells_in-none c.args.indexes.now c.loop-index.index-index
          (omega (arith, c.loop-index-test.true)) (sym c.in_err-cell.ensures.read),
    ))

pub loop-index-preserved : goal.loop-index-preserved
loop-index-preserved c =
    let more =
    cells_in-snoc c.args.indexes.now c.loop-index.index-index c.loop-index.cells.items c.in_ok-cell.cell
    (omega (arith, c.loop-index-test.true)) c.loop-index.invariant (sym c.in_ok-cell.ensures.read) in
    search (rules, more, c.push.ensures, c.if-is_err.ensures)

pub returns-clause-long : goal.returns-clause-long
returns-clause-long c =
    omega (
      arith,
      cells_in-length (take c.loop-index.index-index c.args.indexes.now) c.loop-index.cells.items
          c.loop-index.invariant,
      length-take c.loop-index.index-index c.args.indexes.now,
      c.loop-index-test.false,
      c.loop-index.auto.index-index-end,
    )
