use Rattle.std.proofs.Common.{arith, ◌≡◌, ◌+◌, ◌++◌, length, refl, sym, ap, ◌∙◌}
use Rattle.std.proofs.lemmas.Iterator.Consumers.{YieldsList-from_first}
use Rattle.h3_index.specs.Descendants.{descendants}
use Rattle.h3_tree.specs.Children.{children_left}
use Rattle.h3_c.specs.Lists.{indexes, laid_over}
use Rattle.h3_c.proofs.DescendantLaws.{length-seven}
use Rattle.h3_c.proofs.Laid.{is_no_more}
use Rattle.h3_c.proofs.descendants.put_one_level.Goals as goal

pub returns-then-out-place-lt7-clause-end : goal.returns-then-out-place-lt7-clause-end
returns-then-out-place-lt7-clause-end c =
    c.put_cells_from.ensures.end _ (YieldsList-from_first (λ x. x) children_left _ c.children_at.ensures.list).runs

pub returns-then-out-place-lt7-clause-put : goal.returns-then-out-place-lt7-clause-put
returns-then-out-place-lt7-clause-put c =
    c.put_cells_from.ensures.put _ (YieldsList-from_first (λ x. x) children_left _ c.children_at.ensures.list).runs

pub returns-clause-end : goal.returns-clause-end
returns-clause-end c =
    let long : length (descendants c.args.cell c.args.r) ≡ 7 =
    ap (λ r. length (descendants c.args.cell r)) c.requires.level
    ∙ length-seven c.args.cell (sym c.if-is_pentagon.ensures) in
    rw (
      long,
      is_no_more (c.args.place + 7) (length c.args.out.now)
          (omega (arith, c.if-out-place-lt7.false, c.requires.within)),
    ) refl

pub returns-clause-put : goal.returns-clause-put
returns-clause-put c before first long is =
    c.put_seven.ensures.put before first long is
    ∙ ap (λ r. laid_over (indexes (before ++ descendants c.args.cell r)) first) (sym c.requires.level)
