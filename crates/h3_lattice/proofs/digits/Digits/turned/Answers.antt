use Rattle.std.proofs.Common.{◌≡◌, ◌∙◌, ap, sym, subst, arith, map}
use Rattle.std.proofs.lemmas.List.{length-map, take_all}
use Rattle.h3_directions.specs.Direction.{digit_turned, AreTurned}
use Rattle.h3_lattice.specs.Digits.{IsDigits}
use Rattle.h3_lattice.specs.Expansion.{place}
use Rattle.h3_lattice.proofs.TurnLaws.{all_small-turned, are_turned, place-turned}
use Rattle.h3_lattice.proofs.digits.Digits.turned.Goals as goal

whole : (c : goal.After-loop-r) → c.loop-r.turned.digits ≡ map (digit_turned c.args.n) c.args.self
whole c =
    sym (take_all _ _ (omega arith)) ∙ c.loop-r.invariant.2
    ∙ ap (map (digit_turned c.args.n)) (take_all _ _ (omega arith))

pub returns-clause-products : goal.returns-clause-products
returns-clause-products c = subst (AreTurned c.args.n c.args.self) (sym (whole c)) (are_turned c.args.n c.args.self)

pub returns-clause-place : goal.returns-clause-place
returns-clause-place c = ap place (whole c) ∙ place-turned c.args.n c.args.self

pub returns-clause-valid : goal.returns-clause-valid
returns-clause-valid c =
    subst IsDigits (sym (whole c)) (record {
      coarse = rw length-map c.resolution-r-end.ensures.valid.coarse;
      small = all_small-turned c.args.n c.args.self;
    })
