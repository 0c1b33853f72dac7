use Rattle.std.proofs.Common.{◌<◌, ◌≤◌, ◌+◌, arith, length, refl}
use Rattle.h3_lines.proofs.PlainRows.{goes_plain, plain_shorter, refused_plain}
use Rattle.h3_lines.proofs.TakenRows.{goes_none, goes_refused, goes_then}
use Rattle.h3_lines.proofs.plain.take_trimmed.Goals as goal

pub loop-init : goal.loop-init
loop-init g c = record {
  goes = λ q. goes_none q g.J.JobContract.taken c.args.bytes.now (g.met.J.JobContract.none_taken _);
  same = λ _. refl;
  fewer = omega arith;
  counted = omega arith;
}

pub loop-preserved : goal.loop-preserved
loop-preserved g c =
    let less : length c.in-Some.after.now < length c.loop.left.now =
    plain_shorter c.loop.left.now c.in-Some.after.now c.in-Some.index c.in-Some.ensures in
    let one : g.J.JobContract.count c.take_index.new.self ≤ g.J.JobContract.count c.loop.job + 1 =
    c.in_default-take_index.ensures.counted in
    record {
      goes = λ q.
          goes_then q g.J.JobContract.taken g.met.J.JobContract.taken_then (c.loop.invariant.goes q)
          (goes_plain g.J.JobContract.taken q c.loop.left.now c.in-Some.after.now c.in-Some.index c.in-Some.ensures
          c.in_default-take_index.ensures.ok);
      same = λ all. absurd (omega (arith, all, less, c.loop.invariant.fewer));
      fewer = omega (arith, less, c.loop.invariant.fewer);
      counted = omega (arith, less, one, c.loop.invariant.counted);
    }

pub returns-in-Err-clause-err : goal.returns-in-Err-clause-err
returns-in-Err-clause-err g c q rest =
    rw (c.at.ensures, c.line.ensures) (goes_refused q g.J.JobContract.taken g.J.JobContract.refused
    g.met.J.JobContract.refused_then rest (c.loop.invariant.goes q)
    (refused_plain g.J.JobContract.refused q c.loop.left.now c.in-Some.after.now rest c.in-Some.index c.in-Some.ensures
    c.in-Err.ensures.err))
