use Rattle.std.proofs.Common.{take, subst}
use Rattle.h3_regions.specs.Areas.{AreAreasOf}
use Rattle.h3_regions.proofs.ListingLaws.{only_list}
use Rattle.h3_regions.proofs.areas.Areas.areas_of.Goals as goal

pub returns-clause-is : goal.returns-clause-is
returns-clause-is c =
    let are =
    subst (λ l. AreAreasOf l c.args.cell (take c.write_all.result c.write_all.new.numbers)) c.self.view_is
    c.write_all.ensures.are in
    only_list c.cells_form_trees.ensures c.coverages_decide_lists.ensures.ancestors c.args.self.now c.args.cell
    c.raw-number.ensures.valid.coarse (take c.write_all.result c.write_all.new.numbers) are
