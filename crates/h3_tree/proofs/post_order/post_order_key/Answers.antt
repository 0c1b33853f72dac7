use Rattle.std.proofs.Common.{◌%◌, ◌^◌, ap, ◌∙◌}
use Rattle.std.proofs.lemmas.Nat.{and_mask}
use Rattle.h3_tree.specs.PostOrder.{post_order_key}
use Rattle.h3_tree.proofs.post_order.post_order_key.Goals as goal

pub returns-clause-is : goal.returns-clause-is
unfolding post_order_key
returns-clause-is c = and_mask c.raw.result 52 ∙ ap (λ n. n % 2 ^ 52) c.raw.ensures.number
