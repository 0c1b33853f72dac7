use Rattle.std.proofs.Common.{ℕ, cond, List, Some, ap, ◌∙◌, bytes_eq, Vec, Global}
use Rattle.std.specs.HashMap.{get_by}
use Rattle.h3_rows.proofs.NamesKept.{updates_at}
use Rattle.h3_rows.proofs.names.put_text.Goals as goal
use Rattle.h3_rows.proofs.names.put_text.Goals.{in-Err, in-Ok}

pub returns-clause-ok : goal.returns-clause-ok
returns-clause-ok c = elim c.match-insert.branch [
  | in-Ok w ↦ (
      let items : Vec ℕ Global → List ℕ = λ k. k.items in
      rw w.result-is (λ other.
      updates_at items c.args.places.now c.insert.new.self c.in_ok-key.key.items
      (Some c.args.number) w.in-Ok.ensures.updates other
      ∙ ap (λ l. cond (bytes_eq l other) (Some c.args.number) (get_by (λ k. bytes_eq other k.items) c.args.places.now))
      c.in_ok-key.ensures.items))
  | in-Err w ↦ rw w.result-is tt
]
