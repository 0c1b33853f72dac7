use Rattle.std.proofs.Common.{◌+◌, ◌-◌, length, arith}
use Rattle.h3_regions.proofs.TableLaws.{below_by_table, entries_rise, not_below_by_table}
use Rattle.h3_regions.proofs.zone_index.first_by_table.Goals as goal

pub first_between-requires-then-slot-count-clause-in_order : goal.first_between-requires-then-slot-count-clause-in_order
first_between-requires-then-slot-count-clause-in_order c =
    entries_rise c.args.cells.now c.requires.zones c.args.lowest c.args.shift c.args.firsts.now c.requires.table
    c.slot_of-slot.result 0 0 (omega (arith, c.if-slot-count.true))

pub first_between-requires-then-slot-count-clause-before : goal.first_between-requires-then-slot-count-clause-before
first_between-requires-then-slot-count-clause-before c =
    below_by_table c.args.cells.now c.requires.zones c.args.lowest c.args.shift c.args.firsts.now c.requires.table
    c.slot_of-slot.result c.args.key 0 (omega (arith, c.if-slot-count.true)) (omega (arith, c.slot_of-slot.ensures))

pub first_between-requires-then-slot-count-clause-after : goal.first_between-requires-then-slot-count-clause-after
first_between-requires-then-slot-count-clause-after c =
    not_below_by_table c.args.cells.now c.requires.zones c.args.lowest c.args.shift c.args.firsts.now c.requires.table
    (c.slot_of-slot.result + 1) c.args.key 0 (omega (arith, c.if-slot-count.true))
    (omega (arith, c.slot_of-slot.ensures))

pub first_between-requires-else-slot-count-clause-before : goal.first_between-requires-else-slot-count-clause-before
first_between-requires-else-slot-count-clause-before c =
    below_by_table c.args.cells.now c.requires.zones c.args.lowest c.args.shift c.args.firsts.now c.requires.table
    (length c.args.firsts.now - 1) c.args.key 0 (omega (arith, c.if-count-eq0.false))
    (omega (arith, c.slot_of-slot.ensures, c.if-slot-count.false))
