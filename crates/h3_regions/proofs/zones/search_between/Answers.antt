use Rattle.std.specs.Int.{from_bool}
use Rattle.std.proofs.Common.{◌≡◌, ◌/◌, [], ◌∷◌, nat_lt, get_or, arith, ◌∙◌, ap}
use Rattle.h3_tree.specs.PostOrder.{post_order_key}
use Rattle.h3_regions.proofs.SearchLaws.{half_at, narrowed}
use Rattle.h3_regions.proofs.zones.search_between.Goals as goal

pub loop-size-preserved : goal.loop-size-preserved
loop-size-preserved c =
    let less = nat_lt (post_order_key c.index-cells-first.result) c.args.key in
    let passed : c.from-passed.result ≡ from_bool less =
    c.from-passed.ensures ∙ ap (λ r. from_bool (nat_lt r c.args.key)) c.post_order_key.ensures.is in
    let halves : get_or (0 ∷ 1 ∷ []) c.from-passed.result 0 ≡ from_bool less =
    ap (λ n. get_or (0 ∷ 1 ∷ []) n 0) passed ∙ half_at less in
    narrowed c.args.cells.now c.requires.zones c.args.key c.loop-size.first c.loop-size.size (c.loop-size.size / 2)
    (get_or (0 ∷ 1 ∷ []) c.from-passed.result 0) c.index-cells-first.result (omega arith)
    (omega (arith, c.loop-size-test.true)) c.loop-size.invariant.0 c.index-cells-first.is halves
    c.loop-size.invariant.1 c.loop-size.invariant.2
