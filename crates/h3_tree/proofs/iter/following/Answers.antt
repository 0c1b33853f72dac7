use Rattle.std.proofs.Common.{◌≡◌, ◌-◌, arith, sym, ◌∙◌, ap}
use Rattle.h3_index.specs.Cell.{is_pentagon}
use Rattle.h3_index.specs.Descendants.{ancestor_at}
use Rattle.h3_index.specs.Paths.{next_step}
use Rattle.h3_tree.proofs.FollowingLaws.{sixes_more, sixes_end, moved_is, step_pentagon, step_hexagon, step_not_zero}
use Rattle.h3_tree.proofs.iter.following.Goals as goal
use Rattle.h3_tree.proofs.iter.following.Goals.{then-digit-eq0+then-is_pentagon, else-digit-eq0, else-digit-eq0-via-then-digit-eq0+else-is_pentagon, else-digit-eq0-via-else-digit-eq0}

next_is : (c : goal.After-center_descendant)
    → c.if-digit-eq0.step ≡ next_step (is_pentagon (ancestor_at c.args.cell (c.loop-r.r - 1))) c.digit-digit.result
next_is c =
    elim c.if-digit-eq0.branch [
      | then-digit-eq0+then-is_pentagon w ↦
          w.step-is
          ∙ step_pentagon _ _ w.if-digit-eq0.true
          (ap is_pentagon (sym c.ancestor_at-above.ensures.is) ∙ sym w.is_pentagon.ensures ∙ w.if-is_pentagon.true)
      | else-digit-eq0 w ↦ elim w.else-digit-eq0.branch [
        | else-digit-eq0-via-then-digit-eq0+else-is_pentagon w' ↦
            w.step-is
            ∙ step_hexagon _ _ (ap is_pentagon (sym c.ancestor_at-above.ensures.is) ∙ sym w'.is_pentagon.ensures
            ∙ w'.if-is_pentagon.false)
        | else-digit-eq0-via-else-digit-eq0 w' ↦ w.step-is ∙ step_not_zero _ _ w'.if-digit-eq0.false
      ]
    ]

pub returns-then-digit-ne6 : goal.returns-then-digit-ne6
returns-then-digit-ne6 c =
    rw (
      c.center_descendant.ensures.is,
      c.child.ensures.is,
      c.ancestor_at-above.ensures.is,
      c.resolution-resolution.ensures.number,
    )
    (moved_is c.args.cell c.loop-r.r c.digit-digit.result c.if-digit-eq0.step (omega arith) c.loop-r.invariant
    (sym c.digit-digit.ensures) c.if-digit-ne6.true (next_is c))

pub loop-r-preserved : goal.loop-r-preserved
loop-r-preserved c =
    sixes_more c.args.cell.digits c.loop-r.r (omega arith) c.loop-r.invariant
    (sym c.digit-digit.ensures ∙ c.if-digit-ne6.false)

pub returns : goal.returns
returns c = sixes_end c.args.cell c.loop-r.r c.loop-r-test.false c.loop-r.invariant
