use Rattle.std.proofs.Common.{◌≡◌, arith}
use Rattle.h3_rows.specs.Plain.{is_byte4}
use Rattle.h3_rows.proofs.Masks.{goes_past}
use Rattle.h3_rows.proofs.lanes.find_stop.Goals as goal

pub returns-then-run-lt-LANES-clause-passed : goal.returns-then-run-lt-LANES-clause-passed
returns-then-run-lt-LANES-clause-passed c =
    goes_past (is_byte4 c.args.first c.args.second c.args.third c.args.fourth) c.args.bytes.now c.loop-at.at
    c.run_before-run.result c.loop-at.invariant.passed c.run_before-run.ensures.before

pub loop-at-preserved : goal.loop-at-preserved
loop-at-preserved c =
    let whole : c.run_before-run.result ≡ 16 =
    omega (arith, c.if-run-lt-LANES.false, c.run_before-run.ensures.within) in
    record {
      within = omega (arith, c.loop-at-test.true, c.loop-at.invariant.within);
      passed =
          rw whole at (goes_past (is_byte4 c.args.first c.args.second c.args.third c.args.fourth) c.args.bytes.now
          c.loop-at.at c.run_before-run.result c.loop-at.invariant.passed c.run_before-run.ensures.before);
    }
