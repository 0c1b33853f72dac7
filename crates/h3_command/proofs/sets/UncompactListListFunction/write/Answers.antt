use Rattle.std.proofs.Common.{w32, rules, of_z, to_z, ◌≡◌, ℤ, subst, inl}
use Rattle.std.proofs.lemmas.Int.{to_z-of_z}
use Rattle.h3_functions.specs.Sets.{uncompact_cells}
use Rattle.h3_lines.specs.Answer.{cell_lines, printed}
use Rattle.h3_lines.specs.Write.{Writes, sink_use}
use Rattle.h3_command.proofs.sets.UncompactListListFunction.write.Goals as goal

pub returns : goal.returns
returns g c =
    let read : ℤ = to_z w32 (of_z w32 c.args.self.res) in
    let same : read ≡ c.args.self.res = to_z-of_z w32 c.args.self.res (search rules) in
    let out = sink_use g.W.Sink.taken g.W.Sink.has_failed c.args.out.now c.write_uncompacted.new.out in
    inl (subst (λ (z : ℤ). Writes (printed cell_lines
    (uncompact_cells z c.args.cells.now)) c.write_uncompacted.result out) same c.write_uncompacted.ensures)
