use Rattle.std.proofs.Common.{rules, ◌≡◌, refl}
use Rattle.std.proofs.lemmas.Iterator.{YieldsList-from_slice}
use Rattle.std.proofs.lemmas.Iterator.Consumers.{YieldsList-from_copied}
use Rattle.h3_set.specs.Compacted.{compacted}
use Rattle.h3_command.proofs.files.write_region.Goals as goal

pub returns : goal.returns
returns g c =
    let same : c.copied.result.iter.rest.now ≡ compacted c.args.cells.now =
    search (rules, c.order_by_number.ensures.region c.requires) in
    rw (← same) (c.write_lines.ensures _ (YieldsList-from_copied (YieldsList-from_slice _ refl)).runs)
