use Rattle.h3_c.proofs.zones.Lookup.count_next.Goals as goal

pub returns : goal.returns
returns c = rw c.zones.ensures at c.count_next.ensures.next
