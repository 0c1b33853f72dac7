-- an interrupted write hands on no byte
use Rattle.std.specs.Io.KnownBytes.{Keeps}
use Rattle.h3_program.proofs.retried.RetriedWrite.write.Given as goal

abbrev pub invariant-loop : goal.invariant-loop
invariant-loop g l = Keeps (g.T.Write.contents l.initial.self.inner) (g.T.Write.contents l.self.inner)
