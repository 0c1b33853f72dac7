use Rattle.std.proofs.Common.{◌≡◌, ◌≤◌, take}
use Rattle.h3_lines.specs.Answer.{walked}
use Rattle.h3_lines.proofs.Lines.{Held}
use Rattle.h3_lines.proofs.write.write_walk.Given as goal

abbrev pub invariant-loop-item : goal.invariant-loop-item
invariant-loop-item g l = record {
  held : Held (walked g.L.Line.line_of) l.yielded (g.W.Sink.taken l.initial.out) (g.W.Sink.taken l.out)
      (take l.end l.block);
  same : g.W.Sink.has_failed l.out ≡ g.W.Sink.has_failed l.initial.out;
  within : l.end ≤ 32768;
}
