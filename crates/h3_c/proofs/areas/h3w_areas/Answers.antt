use Rattle.std.proofs.Common.{◌≤◌, length, zip, ap, ◌∙◌, arith, subst}
use Rattle.std.proofs.Math.Nat.{min-le_left, min-le_right}
use Rattle.h3_c.specs.Areas.{AreAreasPut}
use Rattle.h3_c.proofs.PlaceLaws.{areas_over, pairs_fewer}
use Rattle.h3_c.proofs.areas.h3w_areas.Goals as goal

pub put_areas-requires-clause-slots : goal.put_areas-requires-clause-slots
put_areas-requires-clause-slots c =
    omega (
      arith,
      ap length c.deref_mut.ensures.value,
      ap length c.in-Ok-pairs_of.ensures.pairs,
      pairs_fewer c.deref.result.now c.args.areas.now,
      ap length c.deref.ensures.value,
      ap length c.deref_mut-2.ensures.value,
    )

pub put_areas-requires-clause-zones : goal.put_areas-requires-clause-zones
put_areas-requires-clause-zones c =
    let few : length c.deref_mut.result.now ≤ length c.args.cells.now =
    omega (
      arith,
      ap length c.deref_mut.ensures.value,
      ap length c.in-Ok-pairs_of.ensures.pairs,
      pairs_fewer c.deref.result.now c.args.areas.now,
      ap length c.deref.ensures.value,
      c.in-Ok.ensures.long,
    ) in
    let room = min-le_right (length c.args.areas.now) c.min.result in
    let room_of_zones = min-le_left (length c.args.zones.now) (length c.args.numbers.now) in
    omega (arith, few, c.if-room-cells.false, c.min-room.ensures, c.min.ensures, room, room_of_zones)

pub put_areas-requires-clause-numbers : goal.put_areas-requires-clause-numbers
put_areas-requires-clause-numbers c =
    let few : length c.deref_mut.result.now ≤ length c.args.cells.now =
    omega (
      arith,
      ap length c.deref_mut.ensures.value,
      ap length c.in-Ok-pairs_of.ensures.pairs,
      pairs_fewer c.deref.result.now c.args.areas.now,
      ap length c.deref.ensures.value,
      c.in-Ok.ensures.long,
    ) in
    let room = min-le_right (length c.args.areas.now) c.min.result in
    let room_of_numbers = min-le_right (length c.args.zones.now) (length c.args.numbers.now) in
    omega (arith, few, c.if-room-cells.false, c.min-room.ensures, c.min.ensures, room, room_of_numbers)

pub returns-clause-areas : goal.returns-clause-areas
returns-clause-areas c = λ e.
    let pairs_are =
    c.deref_mut.ensures.value ∙ c.in-Ok-pairs_of.ensures.pairs
    ∙ ap (λ l. zip l c.args.areas.now) c.deref.ensures.value in
    let put =
    subst (λ l. AreAreasPut l c.args.zones.now c.put_areas.new.zones c.args.numbers.now c.put_areas.new.numbers
    c.put_areas.new.count) pairs_are (c.put_areas.ensures.put e) in
    let room = min-le_right (length c.args.areas.now) c.min.result in
    let room_of_zones = min-le_left (length c.args.zones.now) (length c.args.numbers.now) in
    let room_of_numbers = min-le_right (length c.args.zones.now) (length c.args.numbers.now) in
    let few = pairs_fewer c.in-Ok.cells.items c.args.areas.now in
    areas_over c.numbers_are_read.ensures c.args.cells.now c.args.areas.now c.args.zones.now c.put_areas.new.zones
    c.args.numbers.now c.put_areas.new.numbers c.put_areas.new.count c.in-Ok.cells.items c.in-Ok.ensures.read
    (omega (
      arith,
      few,
      c.in-Ok.ensures.long,
      c.if-room-cells.false,
      c.min-room.ensures,
      c.min.ensures,
      room,
      room_of_zones,
    ))
    (omega (
      arith,
      few,
      c.in-Ok.ensures.long,
      c.if-room-cells.false,
      c.min-room.ensures,
      c.min.ensures,
      room,
      room_of_numbers,
    ))
    put
