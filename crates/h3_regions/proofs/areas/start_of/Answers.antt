use Rattle.std.proofs.Common.{ap, arith}
use Rattle.h3_index.specs.Cell.{resolution}
use Rattle.h3_regions.proofs.WritingLaws.{start_here}
use Rattle.h3_regions.proofs.areas.start_of.Goals as goal

pub returns-else-from-r : goal.returns-else-from-r
returns-else-from-r c =
    start_here c.args.pairs.now c.requires.listed c.cells_form_intervals.ensures c.args.r c.loop-place.place
    c.index-pairs-place.result c.loop-place-test.true c.index-pairs-place.is
    (omega (
      arith,
      c.if-from-r.false,
      c.from.ensures,
      c.resolution.ensures.number,
      ap (λ p. resolution p.0) c.index-pairs-place.is,
    ))
    c.loop-place.invariant.1
