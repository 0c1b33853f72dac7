use Rattle.std.proofs.Common.{◌≡◌}
use Rattle.h3_directions.specs.Direction.{unit_of}
use Rattle.h3_lattice.specs.Class.{coarser_class, IsCarry}
use Rattle.h3_lattice.proofs.EntryLaws.{none_carried, some_carried, sum_only}
use Rattle.h3_lattice.proofs.class.carry.Goals as goal
use Rattle.h3_lattice.proofs.class.carry.Goals.{After-direction_in}

pub returns-then-row-eq0-clause-only : goal.returns-then-row-eq0-clause-only
returns-then-row-eq0-clause-only c =
    let s = c.sum_in-left.ensures.sum c.args.class c.args.direction c.row_of.ensures in
    sum_only c.args.class c.args.digit c.args.direction _ c.sum_in-left.result.0 s.small
    (rw (none_carried c.args.class c.sum_in-left.result.1 c.if-row-eq0.true) at s.carry)

-- the direction of the row is what is carried
carry_some : (c : After-direction_in)
    → IsCarry c.args.class c.args.digit c.args.direction (unit_of c.direction_in.result) c.sum_in-left.result.0
carry_some c =
    let s = c.sum_in-left.ensures.sum c.args.class c.args.direction c.row_of.ensures in
    let k = some_carried c.args.class c.sum_in-left.result.1 s.is c.if-row-eq0.false in
    let same : c.direction_in.result ≡ k.direction =
    c.direction_in.ensures (coarser_class c.args.class) k.direction k.row_is in
    rw (same) (rw k.is at s.carry)

pub returns-clause-sum : goal.returns-clause-sum
returns-clause-sum c = carry_some c

pub returns-clause-only : goal.returns-clause-only
returns-clause-only c =
    let s = c.sum_in-left.ensures.sum c.args.class c.args.direction c.row_of.ensures in
    sum_only c.args.class c.args.digit c.args.direction (unit_of c.direction_in.result) c.sum_in-left.result.0 s.small
    (carry_some c)
