use Rattle.std.proofs.Common.{◌≡◌, ◌+◌, ◌++◌, ◌∷◌, [], take, max, arith, ◌∙◌, sym, ap}
use Rattle.std.proofs.lemmas.List.{take_more}
use Rattle.h3_index.specs.Cell.{IsCell, resolution}
use Rattle.h3_set.specs.Coverage.{finest}
use Rattle.h3_set.proofs.KeyLaws.{block_small, key_small}
use Rattle.h3_set.proofs.OverlapLaws.{rise_more, within_more}
use Rattle.h3_set.proofs.ResolutionLaws.{finest_push}
use Rattle.h3_set.proofs.survey.survey.Goals as goal

pub overflow_add-next : goal.overflow_add-next
overflow_add-next c = omega (arith, c.post_order_key-next.ensures.is, key_small c.cell-item.result)

pub overflow_add-rises : goal.overflow_add-rises
overflow_add-rises c =
    omega (
      arith,
      c.loop-cell.invariant.end_small,
      c.last_digit_step.ensures.is,
      block_small (resolution c.cell-item.result),
    )

pub loop-cell-preserved : goal.loop-cell-preserved
loop-cell-preserved c =
    let cells = c.args.cells.now in
    let i = c.loop-cell.cell-index in
    let x = c.cell-item.result in
    let before = c.loop-cell.invariant in
    let more : take (c.loop-cell.cell-index + 1) c.args.cells.now
    ≡ take c.loop-cell.cell-index c.args.cells.now ++ c.cell-item.result ∷ [] =
    take_more cells i x c.loop-cell-test.true
    ∙ ap (λ y. take c.loop-cell.cell-index c.args.cells.now ++ y ∷ []) (sym c.cell-item.is) in
    record {
      is =
          c.max-finest.ensures ∙ ap (λ n. max n c.resolution.result) before.is
          ∙ ap (λ n. max (finest (take c.loop-cell.cell-index c.args.cells.now)) n) c.resolution.ensures.number
          ∙ sym (ap finest more ∙ finest_push (take i cells) x);
      small =
          omega (
            arith,
            c.max-finest.ensures,
            c.resolution.ensures.number,
            c.resolution.ensures.valid.coarse,
            before.small,
          );
      valid = within_more IsCell cells i x c.loop-cell-test.true c.cell-item.is before.valid c.resolution.ensures.valid;
      end_small = omega (arith, c.post_order_key-next.ensures.is, key_small x);
      rise =
          rise_more cells i c.loop-cell.end (c.post_order_key-next.result + 1) c.last_digit_step.result x
          c.loop-cell.rises c.last_digit_step.ensures.is c.loop-cell-test.true c.cell-item.is
          (ap (λ n. n + 1) c.post_order_key-next.ensures.is) before.rise;
    }

pub returns-clause-rises : goal.returns-clause-rises
returns-clause-rises c = λ t i j d lt lj.
    (c.loop-cell.invariant.rise t).0 i j d lt (omega (arith, lj))
