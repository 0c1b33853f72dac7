use Rattle.std.proofs.Common.{◌-◌, ◌+◌, ◌≡◌, ◌≤◌, ◌∙◌, length, ap, refl, arith}
use Rattle.std.proofs.lemmas.List.{length-set}
use Rattle.h3_lattice.specs.Class.{class_at, row_of}
use Rattle.h3_lattice.proofs.EntryLaws.{coarser_at, none_carried, some_carried}
use Rattle.h3_lattice.proofs.SumLaws.{IsUnderway, begins, ends, last_sum, next_sum}
use Rattle.h3_lattice.specs.Class.{carried_to}
use Rattle.h3_lattice.proofs.moved.add_at.Goals as goal

pub loop-done-init : goal.loop-done-init
loop-done-init c =
    let long : length c.args.cell.digits ≡ c.args.res - 0 = omega (arith, c.requires.res) in
    let all : IsUnderway c.args.cell.digits c.args.direction (c.args.res - 0) c.args.direction c.args.cell.digits =
    rw long at (begins c.args.cell.digits c.args.direction) in
    let first : c.args.res - 0 ≡ c.args.res = omega arith in (
      refl,
      omega (arith, c.requires.res),
      c.resolution-resolution.ensures.valid,
      (
        c.args.direction,
        rw first (c.row_of-row.ensures ∙ ap (λ class. row_of class c.args.direction) c.at.ensures),
        all,
      ),
    )

pub returns-then-carried-eq0 : goal.returns-then-carried-eq0
returns-then-carried-eq0 c =
    let h = c.loop-done.invariant in
    let r = c.args.res - c.loop-done.done in
    let d = h.3.0 in
    let s = c.sum_in-digit.ensures.sum (class_at r) d h.3.1 in
    let none = none_carried (class_at r) c.sum_in-digit.result.1 c.if-carried-eq0.true in
    let sum =
    last_sum c.loop-done.moved.digits d (class_at r) (carried_to (class_at r) c.sum_in-digit.result.1) r
    c.digit.result c.sum_in-digit.result.0 h.2.digits_small (omega (arith, h.1)) (omega arith) refl
    c.digit.ensures s.small s.carry c.args.cell.digits c.args.direction h.3.2 none in
    rw c.with_digit-moved.ensures.is (h.0, sum, rw c.with_digit-moved.ensures.is at c.with_digit-moved.ensures.valid)

pub loop-done-preserved : goal.loop-done-preserved
loop-done-preserved c =
    let h = c.loop-done.invariant in
    let r = c.args.res - c.loop-done.done in
    let ms = c.loop-done.moved.digits in
    let d = h.3.0 in
    let some : 1 ≤ c.args.res - c.loop-done.done = omega arith in
    let next : c.args.res - (c.loop-done.done + 1) ≡ c.args.res - c.loop-done.done - 1 = omega arith in
    let s = c.sum_in-digit.ensures.sum (class_at r) d h.3.1 in
    let k = some_carried (class_at r) c.sum_in-digit.result.1 s.is c.if-carried-eq0.false in
    let row = k.row_is ∙ ap (λ class. row_of class k.direction) (coarser_at r some) in
    let sum =
    next_sum c.loop-done.moved.digits d (class_at r) (carried_to (class_at r) c.sum_in-digit.result.1) r
    c.digit.result c.sum_in-digit.result.0 h.2.digits_small (omega (arith, h.1)) some refl c.digit.ensures
    s.small s.carry c.args.cell.digits c.args.direction k.direction h.3.2 k.is in
    rw (c.with_digit-moved.ensures.is, next) (
      h.0,
      length-set ms (r - 1) c.sum_in-digit.result.0 ∙ h.1,
      rw c.with_digit-moved.ensures.is at c.with_digit-moved.ensures.valid,
      (k.direction, row, sum),
    )

pub returns : goal.returns
returns c =
    let h = c.loop-done.invariant in
    let none : c.args.res - c.loop-done.done ≡ 0 = omega arith in
    let same = c.direction_in.ensures (class_at (c.args.res - c.loop-done.done)) h.3.0 h.3.1 in
    let sum = ends c.args.cell.digits c.args.direction h.3.0 c.loop-done.moved.digits (rw none at h.3.2) in
    (rw (same, c.of.ensures.is) sum, c.of.ensures.valid)
