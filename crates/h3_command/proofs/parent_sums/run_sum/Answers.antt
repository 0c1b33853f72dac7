use Rattle.std.proofs.Common.{◌≡◌, ◌+◌, ◌-◌, ◌≤◌, ◌∙◌, ap, arith, drop, get_or, length, List, map, sym, take, ℕ}
use Rattle.std.specs.Prelude.{ℤ, ◌+ℤ◌}
use Rattle.std.proofs.lemmas.List.{get_or-map, length-map}
use Rattle.h3_index.specs.Cell.{Address}
use Rattle.h3_numbers.specs.Number.{number_units}
use Rattle.h3_numbers.specs.Sum.{sum_units, total}
use Rattle.h3_numbers.specs.declared.number.Number.{Number}
use Rattle.h3_command.specs.AreaSums.{Amount}
use Rattle.h3_command.specs.ParentEntries.{amount_of, amounts_of}
use Rattle.h3_command.proofs.AncestorSums.{part_more}
use Rattle.h3_command.proofs.parent_sums.run_sum.Goals as goal

-- the sum of the numbers of the first n pairs from a place on
abbrev sum_from : List Amount → ℕ → ℕ → ℤ
sum_from amounts from n = total (map (λ a. a.1) (take n (drop from amounts)))

pub loop-place-init : goal.loop-place-init
loop-place-init c =
    let none : 0 ≡ c.args.from - c.args.from = omega arith in
    record {
      from = omega arith;
      count = c.new-sum.ensures.count ∙ none;
      units = c.new-sum.ensures.units ∙ ap (sum_from (amounts_of c.args.pairs.now) c.args.from) none;
    }

pub plus-sum-requires : goal.plus-sum-requires
plus-sum-requires c =
    let count = c.loop-place.invariant.count in
    let inside = c.loop-place-test.true in
    let within = c.requires.within in
    let few : length c.args.pairs.now ≤ 4611686018427387904 = c.requires.few in
    omega (arith, count, inside, within, few)

pub loop-place-preserved : goal.loop-place-preserved
loop-place-preserved c =
    let inv = c.loop-place.invariant in
    let from = inv.from in
    let count = inv.count in
    let inside = c.loop-place-test.true in
    let within = c.requires.within in
    let place = c.loop-place.place in
    let pairs = c.args.pairs.now in
    let pair = c.index-pairs-place.result in
    let n = place - c.args.from in
    let more : n + 1 ≡ place + 1 - c.args.from = omega (arith, from) in
    let at : c.args.from + n ≡ place = omega (arith, from) in
    let size = length-map pairs amount_of in
    let there : get_or (amounts_of pairs) (c.args.from + n) (amount_of pair) ≡ amount_of pair =
    ap (λ k. get_or (amounts_of pairs) k (amount_of pair)) at
    ∙ get_or-map amount_of pairs place pair (amount_of pair) (omega (arith, inside, within))
    ∙ ap amount_of (sym c.index-pairs-place.is) in
    let step =
    part_more c.totals_are_lawful.ensures.parts (amounts_of pairs) c.args.from n (amount_of pair)
    (omega (arith, inside, within, from, size)) in
    let added = c.plus-sum.ensures.count in
    record {
      from = omega (arith, from);
      count = omega (arith, added, count, from);
      units =
          c.plus-sum.ensures.units
          ∙ ap (λ (q : Address × Number). sum_units c.loop-place.sum +ℤ number_units q.1) (sym c.index-pairs-place.is)
          ∙ ap (λ u. u +ℤ number_units pair.1) inv.units
          ∙ ap (λ (a : Amount). sum_from (amounts_of pairs) c.args.from n +ℤ a.1) (sym there)
          ∙ sym step ∙ ap (sum_from (amounts_of pairs) c.args.from) more;
    }

pub returns-clause-count : goal.returns-clause-count
returns-clause-count c =
    let last = c.loop-place-test.false in
    let end = c.loop-place.auto.place-end c.requires.in_order in
    let count = c.loop-place.invariant.count in
    omega (arith, count, last, end)

pub returns-clause-units : goal.returns-clause-units
returns-clause-units c =
    let last = c.loop-place-test.false in
    let end = c.loop-place.auto.place-end c.requires.in_order in
    let all : c.loop-place.place - c.args.from ≡ c.args.to - c.args.from = omega (arith, last, end) in
    c.loop-place.invariant.units ∙ ap (sum_from (amounts_of c.args.pairs.now) c.args.from) all
