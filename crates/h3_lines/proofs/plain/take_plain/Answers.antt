use Rattle.std.proofs.Common.{◌<◌, ◌≤◌, ◌+◌, arith, length, refl}
use Rattle.h3_lines.proofs.PlainRows.{goes_plain, plain_shorter, refused_plain}
use Rattle.h3_lines.proofs.TakenRows.{goes_none, goes_refused, goes_then}
use Rattle.h3_lines.proofs.plain.take_plain.Goals as goal

pub loop-index-init : goal.loop-index-init
loop-index-init g c = record {
  goes = λ q. goes_none q g.J.JobContract.taken c.args.bytes.now (g.met.J.JobContract.none_taken _);
  same = λ _. refl;
  fewer = omega arith;
  counted = omega arith;
}

pub loop-index-preserved : goal.loop-index-preserved
loop-index-preserved g c =
    let less : length c.in-Some.after.now < length c.loop-index.left.now =
    plain_shorter c.loop-index.left.now c.in-Some.after.now c.in-Some.index c.in-Some.ensures in
    let one : g.J.JobContract.count c.take_index.new.self ≤ g.J.JobContract.count c.loop-index.job + 1 =
    c.in_default-take_index.ensures.counted in
    record {
      goes = λ q.
          goes_then q g.J.JobContract.taken g.met.J.JobContract.taken_then (c.loop-index.invariant.goes q)
          (goes_plain g.J.JobContract.taken q c.loop-index.left.now c.in-Some.after.now c.in-Some.index
          c.in-Some.ensures c.in_default-take_index.ensures.ok);
      same = λ all. absurd (omega (arith, all, less, c.loop-index.invariant.fewer));
      fewer = omega (arith, less, c.loop-index.invariant.fewer);
      counted = omega (arith, less, one, c.loop-index.invariant.counted);
    }

pub returns-in-Err-clause-err : goal.returns-in-Err-clause-err
returns-in-Err-clause-err g c q rest =
    rw (c.at.ensures, c.line.ensures) (goes_refused q g.J.JobContract.taken g.J.JobContract.refused
    g.met.J.JobContract.refused_then rest (c.loop-index.invariant.goes q)
    (refused_plain g.J.JobContract.refused q c.loop-index.left.now c.in-Some.after.now rest c.in-Some.index
    c.in-Some.ensures c.in-Err.ensures.err))

pub returns-clause-some : goal.returns-clause-some
returns-clause-some g c q =
    rw (c.loop-index.invariant.same (omega (arith, c.if-left-bytes.false))) at (c.take_trimmed.ensures.some q)
