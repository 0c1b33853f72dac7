use Rattle.std.proofs.Common.{◌-◌, ap, arith}
use Rattle.h3_table.specs.BaseTable.{link_of}
use Rattle.h3_grid.specs.Rings.{ring_left}
use Rattle.h3_grid.specs.Steps.{state}
use Rattle.h3_grid.specs.Walks.{ring_round}
use Rattle.h3_grid.proofs.ListLaws.{progresses, yields_from}
use Rattle.h3_grid.proofs.RoundLaws.{round-ended, round-point, round-side}
use Rattle.h3_grid.specs.Counters.{directions_left}
use Rattle.h3_grid.proofs.rings.RingIterator.next.Goals as goal

pub returns-then-self-eq0-clause-steps : goal.returns-then-self-eq0-clause-steps
unfolding ring_left
returns-then-self-eq0-clause-steps c =
    let w = c.args.self.now in
    let none =
    round-ended (link_of w.table.now) w.first (state w.cell w.rotation) w.radius w.steps w.sides (omega arith)
    c.if-self-eq0.true in
    rw c.if-not-self.false (none, none)

pub returns-then-self-eq0-2-clause-steps : goal.returns-then-self-eq0-2-clause-steps
unfolding ring_left
returns-then-self-eq0-2-clause-steps c =
    let w = c.args.self.now in
    let none =
    round-point (link_of w.table.now) w.first (state w.cell w.rotation) w.radius w.steps w.sides (omega arith)
    c.if-self-eq0-2.true in
    rw c.if-not-self.false (none, none)

pub returns-clause-steps : goal.returns-clause-steps
unfolding ring_left
returns-clause-steps c =
    let w = c.args.self.now in
    rw c.if-not-self.false (yields_from _
    (ring_round (link_of w.table.now) w.first (state w.cell w.rotation)
    (directions_left w.radius w.radius (w.sides - 1)))
    c.go_on-2.result _
    (ap (ring_round (link_of w.table.now) w.first (state w.cell w.rotation))
    (round-side w.radius w.steps w.sides (omega arith) (omega arith) w.in_ring))
    (rw c.if-not-self.false at c.go_on-2.ensures))

pub returns-clause-goes : goal.returns-clause-goes
returns-clause-goes c =
    progresses ring_left c.args.self.now c.go_on-2.result c.go_on-2.new.self (returns-clause-steps c)
