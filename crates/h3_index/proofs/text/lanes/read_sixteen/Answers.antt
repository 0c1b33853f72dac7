use Rattle.std.proofs.Common.{◌∙◌, Some, ap}
use Rattle.std.proofs.lemmas.Bool.{both_ways}
use Rattle.h3_index.proofs.PlainLaws.{sixteen_read, sixteen_refused}
use Rattle.h3_index.proofs.text.lanes.read_sixteen.Goals as goal

pub returns-then-are_below_sixteen : goal.returns-then-are_below_sixteen
returns-then-are_below_sixteen c =
    let digits = c.values-digits.ensures in
    let lower = digits.others (c.are_below_sixteen.ensures.below c.if-are_below_sixteen.true) in
    ap Some c.joined.ensures ∙ sixteen_read c.args.bytes c.values-digits.result c.requires lower (digits.digits lower)

pub returns-else-are_below_sixteen : goal.returns-else-are_below_sixteen
returns-else-are_below_sixteen c =
    sixteen_refused c.args.bytes c.values-digits.result c.requires c.values-digits.ensures.digits
    (λ small.
    both_ways c.are_below_sixteen.result c.if-are_below_sixteen.false (c.are_below_sixteen.ensures.back small))
