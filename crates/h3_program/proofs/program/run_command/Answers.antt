use Rattle.std.proofs.Common.{rules, inl}
use Rattle.h3_program.proofs.program.run_command.Goals as goal

-- (each part is searched for by itself: a search for the whole would unfold what the command asks)
pub returns-in-Ok-clause-runs : goal.returns-in-Ok-clause-runs
returns-in-Ok-clause-runs g c =
    let opens = rw c.path.ensures at c.in-Ok.ensures.ok in
    rw c.in-Some.is (inl (
      c.open.new.self,
      opens,
      record { runs = search rules; input_kept = search rules; file_kept = search rules },
    ))
