use Rattle.std.proofs.Common.{◌≡◌, ◌<◌, ◌≤◌, ◌+◌, ◌∙◌, ◌++◌, ◌∷◌, [], ℕ, List, Some, None, ap, append-nil, arith, drop, get_or, length, refl, rules, subst, sym, take}
use Rattle.std.proofs.lemmas.Grind.{common_steps}
use Rattle.h3_index.specs.Cell.{Address}
use Rattle.h3_numbers.specs.Number.{number_units}
use Rattle.h3_numbers.specs.Sum.{sum_count}
use Rattle.h3_numbers.specs.declared.sum.Sum.{Sum}
use Rattle.h3_command.specs.SumAnswers.{amount_in}
use Rattle.h3_command.specs.SumTally.{AreAreaSums}
use Rattle.h3_command.proofs.area_sums.SumTallyNamedJob.take.Goals as goal

pub add_amount-requires-clause-room : goal.add_amount-requires-clause-room
add_amount-requires-clause-room g c = rw c.deref_mut.ensures.value c.args.self.now.room

pub add_amount-requires-clause-small : goal.add_amount-requires-clause-small
add_amount-requires-clause-small g c = rw c.deref_mut-2.ensures.value c.args.self.now.small

pub add_amount-requires-clause-few : goal.add_amount-requires-clause-few
add_amount-requires-clause-few g c = rw c.deref_mut-2.ensures.value c.args.self.now.few

pub invariant_of-self-2 : goal.invariant_of-self-2
invariant_of-self-2 g c =
    let new = c.add_amount.new.sums in
    let old = c.args.self.now.sums.items in
    let numbers = c.add_amount.new.numbers in
    let before = c.args.self.now.numbers.items in
    let whole : take c.args.self.now.sums.len (new ++ drop (length new) old) ≡ new =
    first_of (search rules, grind (arith, common_steps)) in
    let long : length new ≡ length old = c.add_amount.auto.sums ∙ ap length c.deref_mut-2.ensures.value in
    let all : take c.args.self.now.numbers.len (numbers ++ drop (length numbers) before) ≡ numbers =
    first_of (search rules, grind (arith, common_steps)) in
    let wide : length numbers ≡ length before = c.add_amount.auto.numbers ∙ ap length c.deref_mut.ensures.value in
    let areas = g.F.FindAreas.areas c.add_amount.new.finder in
    let size = ap length whole ∙ long in
    record {
      room = omega (arith, c.args.self.now.room, c.add_amount.ensures.room, ap length all, wide);
      small = subst (λ n. (k : ℕ) (d : Address × ℕ) → k < length areas → (get_or areas k d).1 < n) (sym size)
          (subst (λ (a : List (Address × ℕ)). (k : ℕ) (d : Address × ℕ) → k < length a → (get_or a k d).1 < length old)
          (sym c.add_amount.ensures.areas) c.args.self.now.small);
      few =
          subst
          (λ (l : List Sum). (k : ℕ) (d : Sum) → k < length l → sum_count (get_or l k d) ≤ c.args.self.now.taken + 1)
          (sym whole) c.add_amount.ensures.few;
      few_none = c.add_amount.ensures.few_none;
    }

pub returns-in-Ok-clause-ok : goal.returns-in-Ok-clause-ok
returns-in-Ok-clause-ok g c =
    let none : c.args.cell ≡ None = first_of (search rules, grind (arith, common_steps)) in
    let areas = g.F.FindAreas.areas c.args.self.now.finder in
    rw none (record {
      areas_kept = refl;
      quotes_kept = refl;
      size = refl;
      title_is = ap Some c.in-Ok.ensures.items;
      more =
          λ before h. subst (λ l. AreAreaSums areas l c.args.self.now.sums.items c.args.self.now.none)
          (sym (append-nil before)) h;
    })

pub returns-clause-ok : goal.returns-clause-ok
returns-clause-ok g c =
    let new = c.add_amount.new.sums in
    let old = c.args.self.now.sums.items in
    let whole : take c.args.self.now.sums.len (new ++ drop (length new) old) ≡ new =
    first_of (search rules, grind (arith, common_steps)) in
    let long : length new ≡ length old = c.add_amount.auto.sums ∙ ap length c.deref_mut-2.ensures.value in
    let areas = g.F.FindAreas.areas c.args.self.now.finder in
    let step = rw c.deref_mut-2.ensures.value at c.add_amount.ensures.next in
    let own : number_units c.amount_in-number.result ≡ amount_in c.args.self.now.quotes c.args.field.now =
    c.amount_in-number.ensures in
    rw c.in-Some.is (record {
      areas_kept = c.add_amount.ensures.areas;
      quotes_kept = refl;
      size = ap length whole ∙ long;
      title_is = refl;
      more =
          λ before h. subst (λ l. AreAreaSums areas
          (before ++ (c.in-Some.cell, amount_in c.args.self.now.quotes c.args.field.now) ∷
          []) l c.add_amount.new.none) (sym whole)
          (subst (λ u. AreAreaSums areas (before ++ (c.in-Some.cell, u) ∷ []) new c.add_amount.new.none) own
          (step before h));
    })
