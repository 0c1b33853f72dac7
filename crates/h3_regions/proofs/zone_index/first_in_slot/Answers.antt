use Rattle.std.proofs.Common.{arith, ap}
use Rattle.h3_regions.specs.FirstPlaces.{slot_of}
use Rattle.h3_regions.proofs.TableLaws.{first_there}
use Rattle.h3_regions.proofs.zone_index.first_in_slot.Goals as goal

pub returns-then-slot_of-slot : goal.returns-then-slot_of-slot
returns-then-slot_of-slot c =
    first_there c.args.cells.now c.requires.zones c.args.lowest c.args.shift c.args.slot c.loop-place.place
    c.index-cells-place.result c.loop-place-test.true c.index-cells-place.is c.loop-place.invariant.1
    (omega (
      arith,
      c.if-slot_of-slot.true,
      c.slot_of.ensures,
      ap (slot_of c.args.lowest c.args.shift) c.post_order_key.ensures.is,
    ))
