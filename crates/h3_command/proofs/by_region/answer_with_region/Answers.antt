use Rattle.h3_command.specs.Combination.{IsRegionOf}
use Rattle.h3_command.proofs.by_region.answer_with_region.Goals as goal

pub returns-in-Some-Some : goal.returns-in-Some-Some
returns-in-Some-Some g c =
    let region : IsRegionOf c.args.cells.now c.of-region.result =
    record {
      valid = c.of-region.ensures.valid;
      covers = c.of-region.ensures.covers 15 c.of-region.ensures.fine;
    } in
    rw (c.in-Some-Some.is-0, c.in-Some-Some.is-1) (c.answer_cut.ensures c.args.cells.now region)
