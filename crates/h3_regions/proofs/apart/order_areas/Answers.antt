use Rattle.std.proofs.lemmas.List.Sorted.{All-permutation, IsPermutation-sym, IsPermutation-trans}
use Rattle.h3_index.specs.Cell.{IsCell}
use Rattle.h3_regions.proofs.PermutedLaws.{apart_permuted, lies_permuted}
use Rattle.h3_regions.proofs.ClashLaws.{refused_where, taken_where}
use Rattle.h3_regions.proofs.apart.order_areas.Goals as goal

pub keep_outermost-requires-clause-valid : goal.keep_outermost-requires-clause-valid
keep_outermost-requires-clause-valid c =
    All-permutation (λ p. IsCell p.0) c.args.pairs.now c.put_pairs_in_order.new.pairs c.put_pairs_in_order.ensures.same
    c.have_cells.ensures

pub returns-in-Some-clause-refused : goal.returns-in-Some-clause-refused
returns-in-Some-clause-refused c =
    taken_where c.coverages_decide_lists.ensures.ancestors c.args.pairs.now
    (apart_permuted c.put_pairs_in_order.new.pairs c.args.pairs.now
    (IsPermutation-sym c.args.pairs.now c.put_pairs_in_order.new.pairs c.put_pairs_in_order.ensures.same)
    c.in-Some.ensures.apart)

pub returns-in-Some-clause-same : goal.returns-in-Some-clause-same
returns-in-Some-clause-same c =
    IsPermutation-trans c.args.pairs.now c.put_pairs_in_order.new.pairs c.keep_outermost.new.pairs
    c.put_pairs_in_order.ensures.same c.keep_outermost.ensures.same

pub returns-in-Some-clause-alike : goal.returns-in-Some-clause-alike
returns-in-Some-clause-alike c = λ x n.
    let same = c.put_pairs_in_order.ensures.same in
    let h = c.in-Some.ensures.alike x n in (
      (λ l.
          lies_permuted c.put_pairs_in_order.new.pairs c.args.pairs.now
          (IsPermutation-sym c.args.pairs.now c.put_pairs_in_order.new.pairs same) x n (h.0 l)),
      (λ l. h.1 (lies_permuted c.args.pairs.now c.put_pairs_in_order.new.pairs same x n l)),
    )

pub returns-in-None-clause-refused : goal.returns-in-None-clause-refused
returns-in-None-clause-refused c =
    refused_where c.coverages_decide_lists.ensures.ancestors c.args.pairs.now
    (λ apart.
    c.in-None.ensures.refused
    (apart_permuted c.args.pairs.now c.put_pairs_in_order.new.pairs c.put_pairs_in_order.ensures.same apart))

pub returns-in-None-clause-same : goal.returns-in-None-clause-same
returns-in-None-clause-same c =
    IsPermutation-trans c.args.pairs.now c.put_pairs_in_order.new.pairs c.keep_outermost.new.pairs
    c.put_pairs_in_order.ensures.same c.keep_outermost.ensures.same

pub returns-in-Some-clause-apart : goal.returns-in-Some-clause-apart
returns-in-Some-clause-apart c =
    apart_permuted c.put_pairs_in_order.new.pairs c.args.pairs.now
    (IsPermutation-sym c.args.pairs.now c.put_pairs_in_order.new.pairs c.put_pairs_in_order.ensures.same)
    c.in-Some.ensures.apart
