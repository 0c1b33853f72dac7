use Rattle.std.proofs.Common.{◌≡◌, ◌+◌, ◌∙◌, ap, arith, get_or}
use Rattle.h3_command.proofs.SummedZones.{are_placed}
use Rattle.h3_command.proofs.zone_sums.write_places.Goals as goal

pub returns : goal.returns
returns c =
    are_placed 0 c.args.zones.now c.loop-i.pairs c.loop-i.invariant.0
    (λ k d e lt.
    let own : k ≡ 0 + k = omega arith in
    c.loop-i.invariant.1 k d e (omega (arith, lt, c.loop-i-test.false))
    ∙ ap (λ m. (get_or c.args.zones.now k e, m)) own)
