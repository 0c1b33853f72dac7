use Rattle.std.proofs.Common.{is_some, ap, ◌∙◌}
use Rattle.h3_c.specs.Zones.{zones_in}
use Rattle.h3_c.proofs.ZoneLaws.{has_zone}
use Rattle.h3_c.proofs.zones.Lookup.covers.Goals as goal

pub returns : goal.returns
returns c = c.is_some.ensures ∙ ap is_some c.zone_of.ensures ∙ has_zone (zones_in c.args.self.now) c.args.cell
