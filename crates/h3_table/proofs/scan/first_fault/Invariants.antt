use Rattle.std.proofs.Common.{◌≡◌, ◌-◌}
use Rattle.h3_table.specs.Checks.{from_base}
use Rattle.h3_table.proofs.scan.first_fault.Given as goal

abbrev pub invariant-loop-base : goal.invariant-loop-base
invariant-loop-base g l =
    from_base (g.A.AtLink.fault_of l.asked) 0 122 ≡ from_base (g.A.AtLink.fault_of l.asked) l.base (122 - l.base)
