use Rattle.std.proofs.Common.{◌≡◌, ◌<◌, ◌++◌, ◌∷◌, [], ◌∙◌, ℕ, ap, arith, drop, get_or, length, refl, rules, subst, sym, take}
use Rattle.std.proofs.lemmas.Grind.{common_steps}
use Rattle.h3_index.specs.Cell.{Address}
use Rattle.h3_regions.specs.AreaCounting.{AreAreaCounts}
use Rattle.h3_command.proofs.area_counts.AreaTallyCellJob.take.Goals as goal

pub invariant_of-self : goal.invariant_of-self
invariant_of-self c =
    let new = c.count_next_in_areas-self.new.counts in
    let old = c.args.self.now.counts.items in
    let areas = c.args.self.now.areas in
    let whole : take c.args.self.now.counts.len (new ++ drop (length new) old) ≡ new =
    first_of (search rules, grind (arith, common_steps)) in
    let long = ap length whole ∙ c.count_next_in_areas-self.auto.counts ∙ ap length c.deref_mut.ensures.value in
    record {
      small = subst (λ n. (k : ℕ) (d : Address × ℕ) → k < length areas → (get_or areas k d).1 < n) (sym long)
          c.args.self.now.small;
    }

pub returns-clause-ok : goal.returns-clause-ok
returns-clause-ok c =
    let new = c.count_next_in_areas-self.new.counts in
    let old = c.args.self.now.counts.items in
    let areas = c.args.self.now.areas in
    let whole : take c.args.self.now.counts.len (new ++ drop (length new) old) ≡ new =
    first_of (search rules, grind (arith, common_steps)) in
    let long = ap length whole ∙ c.count_next_in_areas-self.auto.counts ∙ ap length c.deref_mut.ensures.value in (
      refl,
      (
        long,
        λ before counts. subst
            (λ l. AreAreaCounts areas (before ++ c.args.cell ∷ []) l c.count_next_in_areas-self.result) (sym whole)
            (rw c.deref_mut.ensures.value at c.count_next_in_areas-self.ensures.next before counts),
      ),
    )
