use Rattle.std.proofs.Common.{IsPermutation, arith, ap, length, subst}
use Rattle.h3_c.proofs.ZoneLaws.{zones_over}
use Rattle.h3_c.proofs.zones.h3w_zones.Goals as goal

pub put_zones-requires : goal.put_zones-requires
put_zones-requires c =
    omega (arith, ap length c.deref_mut.ensures.value, c.in-Ok.ensures.long, c.if-zones-cells.false)

pub returns-clause-zones : goal.returns-clause-zones
returns-clause-zones c = λ e.
    let same = subst (λ l. IsPermutation l c.put_zones.new.cells) c.deref_mut.ensures.value c.put_zones.ensures.same in
    zones_over c.numbers_are_read.ensures c.args.cells.now c.args.zones.now c.put_zones.new.zones c.in-Ok.cells.items
    c.put_zones.new.cells c.in-Ok.ensures.read same (c.put_zones.ensures.in_order e) (omega (
      arith,
      c.if-zones-cells.false,
    )) (c.put_zones.ensures.written e)
