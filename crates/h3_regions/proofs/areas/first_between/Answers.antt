use Rattle.std.specs.Int.{from_bool}
use Rattle.std.proofs.Common.{◌≡◌, ◌/◌, [], ◌∷◌, nat_lt, get_or, arith, ◌∙◌, ap, sym}
use Rattle.h3_index.specs.Cell.{number_of}
use Rattle.h3_regions.proofs.SearchLaws.{half_at}
use Rattle.h3_regions.proofs.WritingLaws.{halved}
use Rattle.h3_regions.proofs.areas.first_between.Goals as goal

pub loop-size-preserved : goal.loop-size-preserved
loop-size-preserved c =
    let (low, high, before, after) = c.loop-size.invariant in
    let less = nat_lt (number_of c.index-pairs-first.result.0) c.args.number in
    let passed : c.from-passed.result ≡ from_bool less =
    c.from-passed.ensures
    ∙ ap (λ r. from_bool (nat_lt r c.args.number))
    (c.raw.ensures.number ∙ sym (ap (λ p. number_of p.0) c.index-pairs-first.is)) in
    let halves : get_or (0 ∷ 1 ∷ []) c.from-passed.result 0 ≡ from_bool less =
    ap (λ n. get_or (0 ∷ 1 ∷ []) n 0) passed ∙ half_at less in
    let h =
    halved c.args.pairs.now c.requires.listed c.args.number c.loop-size.first c.loop-size.size (c.loop-size.size / 2)
    (get_or (0 ∷ 1 ∷ []) c.from-passed.result 0) c.index-pairs-first.result (omega arith)
    (omega (arith, c.loop-size-test.true)) (omega (arith, high, c.requires.within)) c.index-pairs-first.is halves before
    after in
    (omega (arith, low), omega (arith, h.0, high), h.1, h.2)
