use Rattle.std.proofs.Common.{◌≡◌, ◌++◌, ◌∷◌, [], length, take, drop, refl, rules, arith, subst, sym}
use Rattle.std.proofs.lemmas.Grind.{common_steps}
use Rattle.h3_regions.specs.Counting.{AreCounts}
use Rattle.h3_command.proofs.counts.TallyCellJob.take.Goals as goal

pub returns-clause-ok : goal.returns-clause-ok
returns-clause-ok c =
    let new = c.count_next-self.new.counts in
    let old = c.args.self.now.counts.items in
    let whole : take c.args.self.now.counts.len (new ++ drop (length new) old) ≡ new =
    first_of (search rules, grind (arith, common_steps)) in (
      refl,
      λ before counts. subst
          (λ l. AreCounts c.args.self.now.zones (before ++ c.args.cell ∷ []) l c.count_next-self.result) (sym whole)
          (rw c.deref_mut.ensures.value at c.count_next-self.ensures.next before counts),
    )
