use Rattle.std.proofs.Common.{◌++◌, ◌≡◌, ◌∙◌, ap, ap₂, arith, length, length-append, take}
use Rattle.std.proofs.lemmas.List.{take_all}
use Rattle.std.proofs.lemmas.Simd.{pick_l_whole}
use Rattle.h3_index.proofs.text.lanes.sixteen_lanes.Goals as goal

-- the lanes in their order
pub returns : goal.returns
returns c =
    let first = c.args.first.now in
    let last = c.args.last.now in
    let whole : take 8 first ++ take 8 last ≡ first ++ last =
    ap₂ (λ xs ys. xs ++ ys) (take_all 8 first (omega (arith, c.requires.first)))
    (take_all 8 last (omega (arith, c.requires.last))) in
    pick_l_whole 0 (take 8 first ++ take 8 last) 16
    (ap length whole ∙ omega (arith, length-append first last, c.requires.first, c.requires.last))
    ∙ whole
