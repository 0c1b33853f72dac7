use Rattle.std.proofs.Common.{arith, length-set, ◌∙◌}
use Rattle.h3_regions.proofs.WritingLaws.{one_start_more}
use Rattle.h3_regions.proofs.areas.starts_of.Goals as goal

pub loop-r-preserved : goal.loop-r-preserved
loop-r-preserved c =
    let start = c.start_of-place.ensures in
    let (size, within, before, below) = c.loop-r.invariant in (
      length-set c.loop-r.starts c.loop-r.r c.start_of-place.result ∙ size,
      start.within,
      λ k d low lt. (let h = start.before k d low lt in omega (arith, h)),
      one_start_more c.args.pairs.now c.loop-r.starts c.loop-r.r c.start_of-place.result
          (omega (arith, size, c.loop-r-test.true)) start below,
    )
