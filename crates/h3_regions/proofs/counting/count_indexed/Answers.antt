use Rattle.std.proofs.Common.{◌≡◌, ◌+◌, ◌∙◌, ap, arith, length, replicate, sum, take, ℕ}
use Rattle.std.proofs.lemmas.List.{length-map, length-take-le}
use Rattle.h3_regions.proofs.CountingLaws.{counts_first, counts_in_parts}
use Rattle.h3_regions.proofs.ZoneLaws.{zones_are_one}
use Rattle.h3_regions.proofs.counting.count_indexed.Goals as goal

pub count_each_indexed-requires : goal.count_each_indexed-requires
count_each_indexed-requires c =
    let n = length c.cells-size.result.now in
    let size : length c.cells-size.result.now ≡ length c.args.index.now =
    ap length (c.cells-size.ensures.is ∙ c.zones.ensures) in
    let front : length (take (length c.cells-size.result.now) c.args.counts.now) ≡ length c.cells-size.result.now =
    length-take-le n c.args.counts.now (omega (arith, size)) in
    counts_first n c.clear.new.counts _ (c.clear.auto.counts ∙ front) ∙ c.clear.ensures
    ∙ ap (λ k. replicate {A = ℕ} k 0) (front ∙ size)

pub returns-clause-counts : goal.returns-clause-counts
returns-clause-counts c =
    let is = c.count_each_indexed.ensures.counts in
    counts_first (length c.args.index.now) c.count_each_indexed.new.counts _ (ap length is ∙ length-map _ _) ∙ is

pub returns-clause-all : goal.returns-clause-all
returns-clause-all c =
    let is = c.count_each_indexed.ensures.counts in
    ap (λ l. sum l + c.count_each_indexed.result)
    (counts_first (length c.args.index.now) c.count_each_indexed.new.counts _ (ap length is ∙ length-map _ _))
    ∙ c.count_each_indexed.ensures.all

pub returns-clause-one : goal.returns-clause-one
returns-clause-one c = zones_are_one c.cells_form_trees.ensures c.coverages_decide_lists.ensures.ancestors

pub returns-clause-parts : goal.returns-clause-parts
returns-clause-parts c = counts_in_parts
