use Rattle.h3_command.proofs.Combined.{left_compacts, ok_by_both}
use Rattle.h3_command.proofs.files.left_cells.Goals as goal

pub returns-clause-ok : goal.returns-clause-ok
returns-clause-ok c =
    ok_by_both c.left_of_region.result _ _ _ (λ left region covers.
    left_compacts c.coverages_decide_combinations.ensures.differences c.args.cells.now c.args.others.now
    c.of-cells.result c.of-others.result left.items c.of-cells.ensures.valid c.of-others.ensures.valid region.valid
    (c.of-cells.ensures.covers 15 c.of-cells.ensures.fine) (c.of-others.ensures.covers 15 c.of-others.ensures.fine)
    covers) c.left_of_region.ensures.region c.left_of_region.ensures.covers
