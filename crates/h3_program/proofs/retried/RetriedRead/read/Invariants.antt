-- the buffer keeps its length, and an interrupted read takes no byte
use Rattle.std.proofs.Common.{◌≡◌, length}
use Rattle.std.specs.Io.KnownBytes.{Keeps}
use Rattle.h3_program.proofs.retried.RetriedRead.read.Given as goal

abbrev pub invariant-loop : goal.invariant-loop
invariant-loop g l =
    (length l.buf ≡ length l.initial.buf)
    × Keeps (g.T.Read.remaining l.initial.self.inner) (g.T.Read.remaining l.self.inner)
