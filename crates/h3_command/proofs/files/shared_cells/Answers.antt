use Rattle.std.proofs.Common.{◌∙◌, subst, sym}
use Rattle.h3_regions.specs.Region.{IsRegion}
use Rattle.std.proofs.lemmas.Result.{IfOk-weaker}
use Rattle.h3_command.proofs.Combined.{shared_compacts}
use Rattle.h3_command.proofs.files.shared_cells.Goals as goal

pub returns-clause-ok : goal.returns-clause-ok
returns-clause-ok c =
    IfOk-weaker c.copied.result _ _ (λ shared is. shared_compacts c.coverages_decide_combinations.ensures.intersections
    c.args.cells.now c.args.others.now c.of-cells.result c.of-others.result c.intersect-shared.result shared.items
    c.of-cells.ensures.valid c.of-others.ensures.valid c.intersect-shared.ensures.region.valid
    (c.of-cells.ensures.covers 15 c.of-cells.ensures.fine) (c.of-others.ensures.covers 15 c.of-others.ensures.fine)
    (c.intersect-shared.ensures.covers 15) (is ∙ c.cells-3.ensures.is)) c.copied.ensures.ok

pub returns-clause-region : goal.returns-clause-region
returns-clause-region c =
    IfOk-weaker c.copied.result _ _ (λ shared is. subst IsRegion
    (sym (is ∙ c.cells-3.ensures.is)) c.intersect-shared.ensures.region) c.copied.ensures.ok
