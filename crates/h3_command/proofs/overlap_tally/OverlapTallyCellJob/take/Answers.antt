use Rattle.std.proofs.Common.{◌≡◌, ◌++◌, ◌∷◌, [], ◌∙◌, ap, arith, drop, length, refl, rules, subst, sym, take}
use Rattle.std.proofs.lemmas.Grind.{common_steps}
use Rattle.h3_command.specs.OverlapTally.{AreCountsByAreas}
use Rattle.h3_command.proofs.overlap_tally.OverlapTallyCellJob.take.Goals as goal

pub count_cell-self-requires-clause-room : goal.count_cell-self-requires-clause-room
count_cell-self-requires-clause-room c = rw c.deref_mut.ensures.value c.args.self.now.room

pub count_cell-self-requires-clause-small : goal.count_cell-self-requires-clause-small
count_cell-self-requires-clause-small c = rw c.deref_mut-2.ensures.value c.args.self.now.small

pub count_cell-self-requires-clause-few : goal.count_cell-self-requires-clause-few
count_cell-self-requires-clause-few c = rw c.deref_mut-2.ensures.value c.args.self.now.few

pub returns-clause-ok : goal.returns-clause-ok
returns-clause-ok c =
    let new = c.count_cell-self.new.counts in
    let old = c.args.self.now.counts.items in
    let areas = c.args.self.now.areas in
    let whole : take c.args.self.now.counts.len (new ++ drop (length new) old) ≡ new =
    first_of (search rules, grind (arith, common_steps)) in
    let long : length new ≡ length old = c.count_cell-self.auto.counts ∙ ap length c.deref_mut-2.ensures.value in
    let step = rw c.deref_mut-2.ensures.value at c.count_cell-self.ensures.next in (
      refl,
      (
        ap length whole ∙ long,
        λ before h. subst (λ l. AreCountsByAreas areas (before ++ c.args.cell ∷ []) l c.count_cell-self.result)
            (sym whole) (step before h),
      ),
    )
