use Rattle.std.proofs.Common.{◌∙◌, subst, sym, ◌↔◌, ◌≡◌}
use Rattle.h3_regions.specs.Region.{IsRegion}
use Rattle.h3_set.specs.Coverage.{IsCovered}
use Rattle.h3_command.proofs.Combined.{fine}
use Rattle.h3_command.proofs.files.left_within.Goals as goal

pub returns-in-Some-clause-region : goal.returns-in-Some-clause-region
returns-in-Some-clause-region c =
    let is : c.in_ok-left-in-Some.left.items ≡ c.in-Some.left =
    c.in_ok-left-in-Some.ensures.ok ∙ c.cells-in-Some.ensures.is in
    subst IsRegion (sym is) c.in-Some.ensures.region

pub returns-in-Some-clause-covers : goal.returns-in-Some-clause-covers
returns-in-Some-clause-covers c x =
    let is : c.in_ok-left-in-Some.left.items ≡ c.in-Some.left =
    c.in_ok-left-in-Some.ensures.ok ∙ c.cells-in-Some.ensures.is in
    let first = c.args.cells.now in
    let second = c.args.others.now in
    subst (λ l. IsCovered l 15 x ↔ (IsCovered first 15 x × (¬ IsCovered second 15 x))) (sym is)
    (c.in-Some.ensures.covers 15 (fine second c.cells.ensures.region.valid) x)
