use Rattle.std.proofs.Common.{◌+◌, ◌∙◌, ap, drop, length, sum}
use Rattle.std.proofs.lemmas.List.{length-map}
use Rattle.h3_regions.proofs.CountingLaws.{counts_first, counts_in_parts, rest_after}
use Rattle.h3_regions.proofs.ZoneLaws.{zones_are_one}
use Rattle.h3_regions.proofs.counting.count.Goals as goal

pub returns-clause-counts : goal.returns-clause-counts
returns-clause-counts c =
    let is = rw c.cells.ensures.is at c.count_from_zero.ensures.counts in
    counts_first (length c.args.zones.now) c.count_from_zero.new.counts _ (ap length is ∙ length-map _ _) ∙ is

pub returns-clause-all : goal.returns-clause-all
returns-clause-all c =
    let is = rw c.cells.ensures.is at c.count_from_zero.ensures.counts in
    ap (λ l. sum l + c.count_from_zero.result)
    (counts_first (length c.args.zones.now) c.count_from_zero.new.counts _ (ap length is ∙ length-map _ _))
    ∙ c.count_from_zero.ensures.all

pub returns-clause-rest : goal.returns-clause-rest
returns-clause-rest c =
    let is = rw c.cells.ensures.is at c.count_from_zero.ensures.counts in
    rest_after (length c.args.zones.now) c.count_from_zero.new.counts _ (ap length is ∙ length-map _ _)
    ∙ ap (λ l. drop (length l) c.args.counts.now) c.cells-2.ensures.is

pub returns-clause-one : goal.returns-clause-one
returns-clause-one c = zones_are_one c.cells_form_trees.ensures c.coverages_decide_lists.ensures.ancestors

pub returns-clause-parts : goal.returns-clause-parts
returns-clause-parts c = counts_in_parts
