use Rattle.h3_c.specs.Zones.{zones_in}
use Rattle.h3_c.proofs.ZoneLaws.{IsCounting}
use Rattle.h3_c.proofs.zones.count_all.Given as goal

abbrev pub invariant-loop-i : goal.invariant-loop-i
invariant-loop-i l = IsCounting (zones_in l.zones) l.indexes l.counts l.others l.i
