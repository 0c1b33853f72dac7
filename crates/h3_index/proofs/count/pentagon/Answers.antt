use Rattle.std.proofs.Common.{◌≡◌, Some, None, refl, ap, ◌∙◌, rules, w32}
use Rattle.std.proofs.lemmas.Int.{to_z-of_z}
use Rattle.h3_index.specs.Count.{number_below, resolution_of}
use Rattle.h3_index.specs.Descendants.{center_descendant}
use Rattle.h3_index.proofs.CountLaws.{match_some, nth_pentagon, pentagons_listed}
use Rattle.h3_index.proofs.count.pentagon.Goals as goal

pub returns-in-Some-clause-nth : goal.returns-in-Some-clause-nth
returns-in-Some-clause-nth c =
    let is : resolution_of c.args.res ≡ Some c.in_ok-res.res =
    rw (to_z-of_z w32 c.args.res (search rules)) at c.in_ok-res.ensures.ok.0 in
    let cell = c.center_descendant.ensures.is ∙ ap (λ b. center_descendant b c.in_ok-res.res) c.in_base.ensures.is in
    match_some _ c.in_ok-res.res _ _ is (rw cell (nth_pentagon c.in_ok-res.res (number_below 12 c.args.n)
    (Some c.in-Some.base) _ (λ e. absurd (cc e))
    (rw (to_z-of_z w32 c.args.n (search rules)) at c.in-Some.ensures.nth)))

pub returns-in-None-clause-nth : goal.returns-in-None-clause-nth
returns-in-None-clause-nth c =
    let is : resolution_of c.args.res ≡ Some c.in_ok-res.res =
    rw (to_z-of_z w32 c.args.res (search rules)) at c.in_ok-res.ensures.ok.0 in
    match_some _ c.in_ok-res.res _ _ is (nth_pentagon c.in_ok-res.res (number_below 12 c.args.n) None _ (λ e. refl)
    (rw (to_z-of_z w32 c.args.n (search rules)) at c.in-None.ensures.nth))

pub returns-in-Some-clause-listed : goal.returns-in-Some-clause-listed
returns-in-Some-clause-listed c = pentagons_listed

pub returns-in-None-clause-listed : goal.returns-in-None-clause-listed
returns-in-None-clause-listed c = pentagons_listed

pub returns-in_err-res-clause-listed : goal.returns-in_err-res-clause-listed
returns-in_err-res-clause-listed c = pentagons_listed
