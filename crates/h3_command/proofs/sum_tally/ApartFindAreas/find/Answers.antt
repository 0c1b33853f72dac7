use Rattle.std.proofs.Common.{◌≡◌, ◌∷◌, [], arith, set, subst, sym, Some, None, take}
use Rattle.std.proofs.lemmas.List.{take_more_set}
use Rattle.h3_regions.specs.Areas.{AreAreasOf}
use Rattle.h3_command.proofs.Summing.{no_area, one_area}
use Rattle.h3_command.proofs.sum_tally.ApartFindAreas.find.Goals as goal

pub returns-in-Some-clause-are : goal.returns-in-Some-clause-are
returns-in-Some-clause-are c =
    let n = c.in-Some.number in
    let one : take 1 (set c.args.numbers.now 0 n) ≡ n ∷ [] =
    take_more_set c.args.numbers.now 0 n (omega (arith, c.requires)) in
    subst (AreAreasOf c.args.self.now.areas c.args.cell) (sym one)
    (one_area c.args.self.now.areas c.args.cell n c.in-Some.ensures.lies (λ m h. let e : Some n ≡ Some m =
    c.in-Some.ensures.one m h in cc))

pub returns-in-None-clause-are : goal.returns-in-None-clause-are
returns-in-None-clause-are c =
    no_area c.args.self.now.areas c.args.cell (λ m h. let e : None ≡ Some m = c.in-None.ensures.one m h in cc)
