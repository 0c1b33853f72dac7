use Rattle.std.proofs.Common.{ℕ, ◌<◌, ◌≤◌, ◌^◌, List, All, AllPairs, IsPermutation}
use Rattle.std.proofs.lemmas.List.Sorted.{All-permutation, length_permutation}
use Rattle.h3_index.specs.Cell.{Address, IsCell}
use Rattle.h3_regions.specs.Listed.{AreListed, pair_number}
use Rattle.h3_regions.proofs.areas.Areas.of.Goals as goal

are_listed : (old new : List (Address × ℕ)) → IsPermutation old new → All (λ p. IsCell p.0) old
    → All (λ p. p.1 < 2 ^ 32) old
    → AllPairs (λ p q. pair_number p ≤ pair_number q) new → AreListed new
are_listed old new same valid small in_order = record {
  valid = All-permutation (λ p. IsCell p.0) old new same valid;
  small = All-permutation (λ p. p.1 < 2 ^ 32) old new same small;
  in_order = in_order;
}

pub starts_of-starts-requires : goal.starts_of-starts-requires
starts_of-starts-requires c =
    record {
      listed =
          are_listed c.args.pairs.now c.put_by_number.new.pairs c.put_by_number.ensures.same c.have_cells.ensures
          c.are_small.ensures c.put_by_number.ensures.in_order;
    }

pub invariant_of-result : goal.invariant_of-result
invariant_of-result c = (
  are_listed c.args.pairs.now c.put_by_number.new.pairs c.put_by_number.ensures.same c.have_cells.ensures
      c.are_small.ensures c.put_by_number.ensures.in_order,
  c.starts_of-starts.ensures,
)

pub returns-clause-size : goal.returns-clause-size
returns-clause-size c = length_permutation c.args.pairs.now c.put_by_number.new.pairs c.put_by_number.ensures.same

pub returns-clause-numbers : goal.returns-clause-numbers
returns-clause-numbers c = λ k small.
    All-permutation (λ p. p.1 < k) c.args.pairs.now c.put_by_number.new.pairs c.put_by_number.ensures.same small
