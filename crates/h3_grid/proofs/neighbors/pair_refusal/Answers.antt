use Rattle.std.proofs.Common.{◌≡◌, ◌||◌, true, false, sym, ◌∙◌, Bool, refl}
use Rattle.h3_index.specs.Cell.{is_pentagon_base, resolution}
use Rattle.h3_grid.proofs.NeighborLaws.{refusal-other, refusal-resolution, refusal-twice}
use Rattle.h3_grid.proofs.neighbors.pair_refusal.Goals as goal
use Rattle.h3_grid.proofs.neighbors.pair_refusal.Goals.{then-in_pentagon_base-via-then-in_pentagon_base, then-in_pentagon_base-via-else-in_pentagon_base+then-in_pentagon_base-2}

pub returns-then-resolution-clause-is : goal.returns-then-resolution-clause-is
returns-then-resolution-clause-is c =
    sym (refusal-resolution c.args.twice c.args.a c.args.b
    (λ e. c.if-resolution.true (c.resolution.ensures.number ∙ e ∙ sym c.resolution-2.ensures.number)))

pub returns-then-eq-clause-is : goal.returns-then-eq-clause-is
returns-then-eq-clause-is c =
    let one : resolution c.args.a ≡ resolution c.args.b =
    sym c.resolution.ensures.number ∙ c.if-resolution.false ∙ c.resolution-2.ensures.number in
    sym (refusal-twice c.args.twice c.args.a c.args.b one (sym c.eq.ensures ∙ c.if-eq.true))

or_first : (a b : Bool) → a ≡ true → (a || b) ≡ true
or_first true b h = refl
or_first false b h = cc

or_second : (a b : Bool) → b ≡ true → (a || b) ≡ true
or_second true b h = refl
or_second false b h = h

or_none : (a b : Bool) → a ≡ false → b ≡ false → (a || b) ≡ false
or_none true b h k = cc
or_none false b h k = k

pub returns-then-in_pentagon_base-clause-is : goal.returns-then-in_pentagon_base-clause-is
returns-then-in_pentagon_base-clause-is c =
    let one : resolution c.args.a ≡ resolution c.args.b =
    sym c.resolution.ensures.number ∙ c.if-resolution.false ∙ c.resolution-2.ensures.number in
    let either : (is_pentagon_base c.args.a.base || is_pentagon_base c.args.b.base) ≡ true =
    elim c.then-in_pentagon_base.branch [
      | then-in_pentagon_base-via-then-in_pentagon_base w ↦
          or_first _ _ (sym c.in_pentagon_base.ensures ∙ w.if-in_pentagon_base.true)
      | then-in_pentagon_base-via-else-in_pentagon_base+then-in_pentagon_base-2 w ↦
          or_second _ _ (sym w.in_pentagon_base-else-in_pentagon_base.ensures ∙ w.if-in_pentagon_base-2.true)
    ] in
    sym (refusal-other c.args.twice c.args.a c.args.b true one (sym c.eq.ensures ∙ c.if-eq.false) either)

pub returns-clause-is : goal.returns-clause-is
returns-clause-is c =
    let one : resolution c.args.a ≡ resolution c.args.b =
    sym c.resolution.ensures.number ∙ c.if-resolution.false ∙ c.resolution-2.ensures.number in
    let neither =
    or_none (is_pentagon_base c.args.a.base) (is_pentagon_base c.args.b.base)
    (sym c.in_pentagon_base.ensures ∙ c.if-in_pentagon_base.false)
    (sym c.in_pentagon_base-else-in_pentagon_base.ensures ∙ c.if-in_pentagon_base-2.false) in
    sym (refusal-other c.args.twice c.args.a c.args.b false one (sym c.eq.ensures ∙ c.if-eq.false) neither)
