use Rattle.std.proofs.Common.{◌<◌, length, arith}
use Rattle.h3_regions.proofs.CountingLaws.{one_counted, one_more, one_uncounted, within_all}
use Rattle.h3_regions.proofs.counting.count_next.Goals as goal

pub overflow_add-counts : goal.overflow_add-counts
overflow_add-counts c =
    let found = rw c.cells.ensures.is at c.in-Some.ensures.found in
    let room : c.in-Some.i < length c.args.counts.now = omega (arith, found.0) in
    omega (arith, within_all c.args.counts.now c.in-Some.i room)

pub returns-in-Some-clause-one : goal.returns-in-Some-clause-one
returns-in-Some-clause-one c =
    let found = rw c.cells.ensures.is at c.in-Some.ensures.found in
    let room : c.in-Some.i < length c.args.counts.now = omega (arith, found.0) in
    omega (arith, one_more c.args.counts.now c.in-Some.i room)

pub returns-in-Some-clause-next : goal.returns-in-Some-clause-next
returns-in-Some-clause-next c =
    let found = rw c.cells.ensures.is at c.in-Some.ensures.found in
    one_counted c.coverages_decide_lists.ensures.ancestors c.args.zones.now c.args.counts.now c.args.others c.args.cell
    c.in-Some.i found.0 found.1 (rw c.cells.ensures.is at c.in-Some.ensures.one)

pub returns-in-None-clause-next : goal.returns-in-None-clause-next
returns-in-None-clause-next c =
    one_uncounted c.coverages_decide_lists.ensures.ancestors c.args.zones.now c.args.counts.now c.args.others
    c.args.cell (rw c.cells.ensures.is at c.in-None.ensures.one)
