use Rattle.h3_command.proofs.SummedZones.{printed_zone_sums}
use Rattle.h3_command.proofs.laws.zone_sums_add_up.Goals as goal

pub returns : goal.returns
returns c = printed_zone_sums c.counts_add_up.ensures.whole c.totals_are_lawful.ensures.parts
