use Rattle.std.proofs.Common.{arith, ◌≡◌, ◌+◌, ◌*◌, ◌++◌, length, sym, ap, ◌∙◌, append_assoc}
use Rattle.std.proofs.lemmas.List.{length-append}
use Rattle.h3_index.specs.Cell.{is_pentagon}
use Rattle.h3_index.specs.Descendants.{children}
use Rattle.h3_c.specs.Lists.{indexes, laid_over}
use Rattle.h3_c.proofs.DescendantLaws.{all_grandchildren, grandchildren_below, grandchildren_below-next, hexagon-child, length-grandchildren_below}
use Rattle.h3_c.proofs.descendants.put_forty_nine.Goals as goal

pub put_seven-requires-clause-hexagon : goal.put_seven-requires-clause-hexagon
put_seven-requires-clause-hexagon c =
    ap is_pentagon c.child.ensures.is ∙ hexagon-child c.args.cell c.loop-digit.digit c.requires.hexagon

pub loop-digit-preserved : goal.loop-digit-preserved
loop-digit-preserved c before first long is =
    let below = grandchildren_below c.args.cell c.loop-digit.digit in
    let size : length below ≡ 7 * c.loop-digit.digit =
    length-grandchildren_below c.args.cell c.loop-digit.digit c.requires.hexagon in
    let on : length (before ++ below) ≡ c.args.place + 7 * c.from.result =
    omega (arith, length-append before below, size, long, c.from.ensures) in
    c.put_seven.ensures.put (before ++ below) first on (c.loop-digit.invariant before first long is)
    ∙ ap (λ l. laid_over (indexes l) first) (append_assoc before below (children c.child.result)
    ∙ ap (λ k. before ++ (below ++ children k)) c.child.ensures.is
    ∙ ap (λ l. before ++ l) (sym (grandchildren_below-next c.args.cell c.loop-digit.digit)))

pub returns : goal.returns
returns c =
    let last : c.loop-digit.digit ≡ 7 = omega (arith, c.loop-digit.auto.digit-end, c.loop-digit-test.false) in
    record {
      put = λ before first long is.
          c.loop-digit.invariant before first long is
          ∙ ap (λ d. laid_over (indexes (before ++ grandchildren_below c.args.cell d)) first) last
          ∙ ap (λ l. laid_over (indexes (before ++ l)) first) (all_grandchildren c.args.cell c.requires.hexagon);
    }
