use Rattle.std.proofs.Common.{arith, ◌≡◌, ◌+◌, ◌++◌, length, refl, sym, ap, ◌∙◌}
use Rattle.std.proofs.lemmas.Iterator.Consumers.{YieldsList-from_first}
use Rattle.h3_index.specs.Descendants.{descendants}
use Rattle.h3_tree.specs.Children.{children_left}
use Rattle.h3_c.specs.Lists.{indexes, laid_over}
use Rattle.h3_c.proofs.DescendantLaws.{length-forty_nine}
use Rattle.h3_c.proofs.Laid.{is_no_more}
use Rattle.h3_c.proofs.descendants.put_two_levels.Goals as goal

pub returns-then-out-place-lt49-clause-end : goal.returns-then-out-place-lt49-clause-end
returns-then-out-place-lt49-clause-end c =
    c.put_cells_from.ensures.end _ (YieldsList-from_first (λ x. x) children_left _ c.children_at.ensures.list).runs

pub returns-then-out-place-lt49-clause-put : goal.returns-then-out-place-lt49-clause-put
returns-then-out-place-lt49-clause-put c =
    c.put_cells_from.ensures.put _ (YieldsList-from_first (λ x. x) children_left _ c.children_at.ensures.list).runs

pub returns-clause-end : goal.returns-clause-end
returns-clause-end c =
    let long : length (descendants c.args.cell c.args.r) ≡ 49 =
    ap (λ r. length (descendants c.args.cell r)) c.requires.levels
    ∙ length-forty_nine c.args.cell (sym c.if-is_pentagon.ensures) in
    rw (
      long,
      is_no_more (c.args.place + 49) (length c.args.out.now)
          (omega (arith, c.if-out-place-lt49.false, c.requires.within)),
    ) refl

pub returns-clause-put : goal.returns-clause-put
returns-clause-put c before first long is =
    c.put_forty_nine.ensures.put before first long is
    ∙ ap (λ r. laid_over (indexes (before ++ descendants c.args.cell r)) first) (sym c.requires.levels)
