use Rattle.std.proofs.Common.{arith, take, length}
use Rattle.std.proofs.lemmas.List.{length-take}
use Rattle.h3_command.proofs.Summing.{none_next, places_once, small_places, some_next}
use Rattle.h3_command.proofs.sum_tally.add_amount.Goals as goal

pub add_to_each-requires-clause-small : goal.add_to_each-requires-clause-small
add_to_each-requires-clause-small g c =
    small_places (g.F.FindAreas.areas c.args.finder.now) c.args.cell (take c.find-found.result c.find-found.new.numbers)
    (length c.args.sums.now) c.find-found.ensures.are c.requires.small

pub add_to_each-requires-clause-once : goal.add_to_each-requires-clause-once
add_to_each-requires-clause-once g c =
    places_once (g.F.FindAreas.areas c.args.finder.now) c.args.cell (take c.find-found.result c.find-found.new.numbers)
    c.find-found.ensures.are

pub returns-then-found-eq0-clause-next : goal.returns-then-found-eq0-clause-next
returns-then-found-eq0-clause-next g c = λ amounts was.
    let list = take c.find-found.result c.find-found.new.numbers in
    none_next c.totals_are_lawful.ensures.parts c.areas_are_lawful.ensures.tested
    (g.F.FindAreas.areas c.args.finder.now)
    c.args.cell list c.find-found.ensures.are c.args.number c.args.sums.now c.add_to_each.new.sums
    c.add_to_each.auto.sums
    c.add_to_each.ensures.more c.add_to_each.ensures.same c.args.none.now c.plus.result amounts
    (omega (arith, length-take c.find-found.result c.find-found.new.numbers, c.if-found-eq0.true))
    (record { count = c.plus.ensures.count; units = c.plus.ensures.units }) was

pub returns-else-found-eq0-clause-next : goal.returns-else-found-eq0-clause-next
returns-else-found-eq0-clause-next g c = λ amounts was.
    let list = take c.find-found.result c.find-found.new.numbers in
    some_next c.totals_are_lawful.ensures.parts c.areas_are_lawful.ensures.tested
    (g.F.FindAreas.areas c.args.finder.now)
    c.args.cell list c.find-found.ensures.are c.args.number c.args.sums.now c.add_to_each.new.sums
    c.add_to_each.auto.sums
    c.add_to_each.ensures.more c.add_to_each.ensures.same c.args.none.now amounts
    (omega (
      arith,
      length-take c.find-found.result c.find-found.new.numbers,
      c.if-found-eq0.false,
      c.find-found.ensures.fewer,
    )) was
