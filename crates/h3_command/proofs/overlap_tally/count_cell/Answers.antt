use Rattle.std.proofs.Common.{arith, take, length}
use Rattle.std.proofs.lemmas.List.{length-take}
use Rattle.h3_command.proofs.OverlapCounts.{none_counted, some_counted}
use Rattle.h3_command.proofs.Summing.{places_once, small_places}
use Rattle.h3_command.proofs.overlap_tally.count_cell.Goals as goal

pub add_one_to_each-requires-clause-small : goal.add_one_to_each-requires-clause-small
add_one_to_each-requires-clause-small c =
    small_places c.args.areas.now c.args.cell (take c.areas_of-found.result c.areas_of-found.new.numbers)
    (length c.args.counts.now) c.areas_of-found.ensures.are c.requires.small

pub add_one_to_each-requires-clause-once : goal.add_one_to_each-requires-clause-once
add_one_to_each-requires-clause-once c =
    places_once c.args.areas.now c.args.cell (take c.areas_of-found.result c.areas_of-found.new.numbers)
    c.areas_of-found.ensures.are

pub returns-then-found-eq0-clause-next : goal.returns-then-found-eq0-clause-next
returns-then-found-eq0-clause-next c = λ cells was.
    let list = take c.areas_of-found.result c.areas_of-found.new.numbers in
    none_counted c.areas_are_lawful.ensures.tested c.args.areas.now c.args.cell list c.areas_of-found.ensures.are
    c.args.counts.now c.add_one_to_each.new.counts c.add_one_to_each.auto.counts
    c.add_one_to_each.ensures.more c.add_one_to_each.ensures.same c.args.none cells
    (omega (arith, length-take c.areas_of-found.result c.areas_of-found.new.numbers, c.if-found-eq0.true)) was

pub returns-else-found-eq0-clause-next : goal.returns-else-found-eq0-clause-next
returns-else-found-eq0-clause-next c = λ cells was.
    let list = take c.areas_of-found.result c.areas_of-found.new.numbers in
    some_counted c.areas_are_lawful.ensures.tested c.args.areas.now c.args.cell list c.areas_of-found.ensures.are
    c.args.counts.now c.add_one_to_each.new.counts c.add_one_to_each.auto.counts
    c.add_one_to_each.ensures.more c.add_one_to_each.ensures.same c.args.none cells
    (omega (
      arith,
      length-take c.areas_of-found.result c.areas_of-found.new.numbers,
      c.if-found-eq0.false,
      c.areas_of-found.ensures.fewer,
    )) was
