use Rattle.std.proofs.Common.{◌≡◌, ◌∙◌, sym, arith}
use Rattle.h3_directions.specs.Direction.{directions}
use Rattle.h3_table.specs.Checks.{in_directions}
use Rattle.h3_directions.specs.declared.direction.Direction.TheVariants.{K}
use Rattle.h3_table.proofs.FirstLaws.{directions-some, directions-none}
use Rattle.h3_table.proofs.scan.fault_from.Goals as goal

pub returns-then-is_some : goal.returns-then-is_some
returns-then-is_some g c =
    sym
    (c.loop-direction.invariant
    ∙ directions-some (g.A.AtLink.fault_of c.args.asked.now c.args.base) directions
    c.loop-direction.direction-index K c.fault_at-fault.result
    c.loop-direction-test.true c.fault_at-fault.ensures (sym c.is_some.ensures ∙ c.if-is_some.true))

pub loop-direction-preserved : goal.loop-direction-preserved
loop-direction-preserved g c =
    c.loop-direction.invariant
    ∙ directions-none (g.A.AtLink.fault_of c.args.asked.now c.args.base) directions c.loop-direction.direction-index K
    c.fault_at-fault.result
    c.loop-direction-test.true c.fault_at-fault.ensures (sym c.is_some.ensures ∙ c.if-is_some.false)

pub returns : goal.returns
unfolding in_directions
returns g c =
    let n : c.loop-direction.direction-index ≡ 6 = omega arith in
    sym (rw n at c.loop-direction.invariant)
