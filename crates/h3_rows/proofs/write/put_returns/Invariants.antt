use Rattle.std.proofs.Common.{◌≤◌, ◌-◌, ◌++◌, take, replicate}
use Rattle.h3_lines.specs.Answering.{Moves}
use Rattle.h3_rows.proofs.write.put_returns.Given as goal

abbrev pub invariant-loop-left : goal.invariant-loop-left
invariant-loop-left g l = record {
  within : l.last ≤ 32768;
  fewer : l.left ≤ l.fn.count;
  moves : Moves g.W.Sink.taken g.W.Sink.has_failed (take l.fn.end l.fn.block ++ replicate (l.fn.count - l.left) 13)
      (take l.last l.block) l.fn.out l.out;
}

abbrev pub decreases-loop-left : goal.decreases-loop-left
decreases-loop-left g l = l.left
