use Rattle.std.proofs.Common.{arith}
use Rattle.h3_table.specs.Links.{links_in}
use Rattle.h3_table.proofs.ClosedLaws.{all_links, closed_at, closed_links_are_sound}
use Rattle.h3_table.proofs.table.BaseTable.closed.Goals as goal

pub invariant_of-result : goal.invariant_of-result
invariant_of-result c =
    let at =
    closed_at c.loop-i.links c.loop-i.invariant.0
    (λ k h. c.loop-i.invariant.1 k (omega (arith, h, c.loop-i-test.false))) in
    record {
      within =
          all_links c.loop-i.links c.loop-i.invariant.0
          (λ k h. c.loop-i.invariant.1 k (omega (arith, h, c.loop-i-test.false)));
      sound = closed_links_are_sound (links_in c.loop-i.links) at;
    }

pub returns : goal.returns
returns c =
    closed_at c.loop-i.links c.loop-i.invariant.0
    (λ k h. c.loop-i.invariant.1 k (omega (arith, h, c.loop-i-test.false)))
