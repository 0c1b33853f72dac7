use Rattle.std.proofs.Common.{◌≡◌, drop}
use Rattle.std.specs.List.{list_all}
use Rattle.h3_directions.specs.Direction.{directions}
use Rattle.h3_table.specs.Links.{links_in}
use Rattle.h3_table.specs.Checks.{are_apart}
use Rattle.h3_table.proofs.checks.leads_apart.Given as goal

abbrev pub invariant-loop-other : goal.invariant-loop-other
invariant-loop-other l =
    list_all (are_apart (links_in l.links) l.base l.direction) directions
    ≡ list_all (are_apart (links_in l.links) l.base l.direction) (drop l.other-index directions)
