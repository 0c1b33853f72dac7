-- an interrupted flush changes no byte
use Rattle.std.specs.Io.KnownBytes.{Keeps}
use Rattle.h3_program.proofs.retried.RetriedWrite.flush.Given as goal

abbrev pub invariant-loop : goal.invariant-loop
invariant-loop g l = Keeps (g.T.Write.contents l.initial.self.inner) (g.T.Write.contents l.self.inner)
