use Rattle.std.proofs.Common.{arith, ℕ, ◌≡◌, ◌<◌, ◌≤◌, ◌+◌, ◌*◌, ◌^◌, ◌-◌, ◌++◌, length, sym, ap, ◌∙◌}
use Rattle.std.proofs.lemmas.List.{append-nil}
use Rattle.std.proofs.lemmas.Nat.{mul-le}
use Rattle.h3_index.specs.Cell.{number_of}
use Rattle.h3_index.specs.Descendants.{child}
use Rattle.h3_c.specs.Lists.{indexes, laid_over}
use Rattle.h3_c.proofs.DescendantLaws.{children_below, children_below-next, length-children_below, number_parent, number_small, number_step, power_small, seven_children}
use Rattle.h3_c.proofs.Laid.{length-laid_over}
use Rattle.h3_c.proofs.StartLaws.{put-next}
use Rattle.h3_c.proofs.descendants.put_seven.Goals as goal

pub overflow_add-number : goal.overflow_add-number
overflow_add-number c =
    let small : c.raw.result < 2 ^ 60 =
    rw c.raw.ensures.number (number_small c.cells_form_intervals.ensures c.args.parent c.raw.ensures.valid) in
    omega (arith, small)

pub overflow_mul-number : goal.overflow_mul-number
overflow_mul-number c =
    let most : c.args.unit ≤ 2 ^ 45 =
    rw c.requires.unit (power_small (14 - length c.args.parent.digits) (omega arith)) in
    omega (arith, most)

pub overflow_sub-number : goal.overflow_sub-number
overflow_sub-number c =
    let up : number_of c.args.parent + 2 ^ 52 ≡ number_of (child c.args.parent 0) + 7 * c.args.unit =
    number_parent c.args.parent c.requires.coarse
    ∙ ap (λ u. number_of (child c.args.parent 0) + 7 * u) (sym c.requires.unit) in
    omega (arith, up, c.raw.ensures.number)

pub loop-d-init : goal.loop-d-init
loop-d-init c =
    let up : number_of c.args.parent + 2 ^ 52 ≡ number_of (child c.args.parent 0) + 7 * c.args.unit =
    number_parent c.args.parent c.requires.coarse
    ∙ ap (λ u. number_of (child c.args.parent 0) + 7 * u) (sym c.requires.unit) in
    record {
      number = omega (arith, up, c.raw.ensures.number);
      put = λ before first long is. is ∙ ap (λ l. laid_over (indexes l) first) (sym (append-nil before));
    }

-- no number after the last of the children is too large
fits : (first d u number above : ℕ) → d < 7 → number ≡ first + d * u → above < 2 ^ 60 → above + 2 ^ 52 ≡ first + 7 * u
    → number + u < 2 ^ 64
fits first d u number above small is low up =
    let most : (d + 1) * u ≤ 7 * u = mul-le (d + 1) u 7 u (omega (arith, small)) (omega arith) in
    let next : (d + 1) * u ≡ d * u + u = more d u in
    omega (arith, most, next, is, low, up)
  where
    more : (d u : ℕ) → (d + 1) * u ≡ d * u + u
    more d u = grind arith

pub overflow_add-number-in-loop-d : goal.overflow_add-number-in-loop-d
overflow_add-number-in-loop-d c =
    let up : number_of c.args.parent + 2 ^ 52 ≡ number_of (child c.args.parent 0) + 7 * c.args.unit =
    number_parent c.args.parent c.requires.coarse
    ∙ ap (λ u. number_of (child c.args.parent 0) + 7 * u) (sym c.requires.unit) in
    let small =
    fits (number_of (child c.args.parent 0)) c.loop-d.d c.args.unit c.loop-d.number
    (number_of c.args.parent) c.loop-d-test.true c.loop-d.invariant.number
    (number_small c.cells_form_intervals.ensures c.args.parent c.raw.ensures.valid) up in
    omega (arith, small)

pub loop-d-preserved : goal.loop-d-preserved
loop-d-preserved c =
    let p = c.args.parent in
    let d = c.loop-d.d in
    let u = c.args.unit in
    let same : length c.loop-d.out ≡ length c.args.out.now = c.loop-d.auto.out in
    let one_more : d * u + u ≡ (d + 1) * u = next d u in
    let number : c.loop-d.number ≡ number_of (child p d) =
    number_step p d u c.loop-d.number c.requires.unit c.loop-d.invariant.number in
    record {
      number = omega (arith, c.loop-d.invariant.number, one_more);
      put = λ before first long is.
          let room : length first ≡ length c.args.out.now =
          sym (ap length is ∙ length-laid_over (indexes before) first) in
          rw number (put-next before (children_below p d) (child p d) first c.loop-d.out (c.args.place + d)
          (omega (arith, long, length-children_below p d))
          (omega (arith, room, c.requires.room, c.loop-d-test.true)) (c.loop-d.invariant.put before first long is))
          ∙ ap (λ l. laid_over (indexes (before ++ l)) first) (sym (children_below-next p d));
    }
  where
    next : (d u : ℕ) → d * u + u ≡ (d + 1) * u
    next d u = grind arith

pub returns : goal.returns
returns c =
    let p = c.args.parent in
    let last : c.loop-d.d ≡ 7 = omega (arith, c.loop-d.auto.d-end, c.loop-d-test.false) in
    record {
      put = λ before first long is.
          c.loop-d.invariant.put before first long is
          ∙ ap (λ d. laid_over (indexes (before ++ children_below p d)) first) last
          ∙ ap (λ l. laid_over (indexes (before ++ l)) first) (seven_children p c.requires.hexagon);
    }
