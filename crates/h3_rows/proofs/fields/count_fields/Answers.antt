use Rattle.std.proofs.Common.{◌≡◌, suc, length, ap, arith, false, length-append, ℕ}
use Rattle.h3_lines.specs.Pieces.{cut}
use Rattle.h3_lines.specs.PiecesLaws.{cut_at_end}
use Rattle.h3_rows.proofs.Finding.{cuts_first}
use Rattle.h3_rows.proofs.fields.count_fields.Goals as goal

pub loop-after-preserved : goal.loop-after-preserved
loop-after-preserved c =
    let one : length (cut c.args.separator c.args.quotes false c.loop-after.rest.now)
    ≡ suc (length (cut c.args.separator c.args.quotes false c.in-Ok.after.now)) =
    ap length
    (cuts_first c.args.separator c.args.quotes c.loop-after.rest.now _ c.in-Ok.after.now c.in-Ok.ensures.cut) in
    record {
      counted = omega (arith, c.loop-after.invariant.counted, one);
      short = omega (arith, c.loop-after.invariant.short, ap length c.in-Ok.ensures.cut.split, length-append {A = ℕ});
    }

pub returns : goal.returns
returns c =
    let last : length (cut c.args.separator c.args.quotes false c.loop-after.rest.now) ≡ 1 =
    ap length
    (cut_at_end c.args.separator c.args.quotes false c.loop-after.rest.now c.in_default.ensures.uncut.uncut) in
    omega (arith, c.loop-after.invariant.counted, last)
