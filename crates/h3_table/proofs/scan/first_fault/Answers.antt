use Rattle.std.proofs.Common.{◌∙◌, sym, arith}
use Rattle.h3_table.proofs.FirstLaws.{from-none, base-some, base-none, base-pentagon}
use Rattle.h3_table.proofs.scan.first_fault.Goals as goal
use Rattle.h3_table.proofs.scan.first_fault.Goals.{then-is_hexagon_base+else-is_some, else-is_hexagon_base}

pub returns-then-is_some : goal.returns-then-is_some
returns-then-is_some g c =
    sym
    (c.loop-base.invariant
    ∙ base-some (g.A.AtLink.fault_of c.args.asked.now) c.loop-base.base c.fault_from-fault.result (omega arith)
    (sym c.is_hexagon_base.ensures.is ∙ c.if-is_hexagon_base.true) c.fault_from-fault.ensures
    (sym c.is_some.ensures ∙ c.if-is_some.true))

pub loop-base-preserved : goal.loop-base-preserved
loop-base-preserved g c =
    elim c.if-is_hexagon_base.branch [
      | then-is_hexagon_base+else-is_some w ↦
          c.loop-base.invariant
          ∙ base-none (g.A.AtLink.fault_of c.args.asked.now) c.loop-base.base w.fault_from-fault.result
          c.loop-base-test.true
          (sym c.is_hexagon_base.ensures.is ∙ w.if-is_hexagon_base.true) w.fault_from-fault.ensures
          (sym w.is_some.ensures ∙ w.if-is_some.false)
      | else-is_hexagon_base w ↦
          c.loop-base.invariant
          ∙ base-pentagon (g.A.AtLink.fault_of c.args.asked.now) c.loop-base.base c.loop-base-test.true
          (sym c.is_hexagon_base.ensures.is ∙ w.if-is_hexagon_base.false)
    ]

pub returns : goal.returns
returns g c =
    sym (c.loop-base.invariant ∙ from-none (g.A.AtLink.fault_of c.args.asked.now) c.loop-base.base (omega arith))
