use Rattle.std.proofs.Common.{◌-◌, ◌/◌, ◌^◌, ◌∙◌, ap, arith}
use Rattle.h3_tree.proofs.PentagonPositionLaws.{places_are, places_few}
use Rattle.h3_tree.proofs.positions.deleted_below.Goals as goal

pub power_of_seven-requires : goal.power_of_seven-requires
power_of_seven-requires c = places_few c.args.digits c.requires

pub returns : goal.returns
returns c n less least =
    ap (λ p. (p - 1) / 6)
    (c.power_of_seven.ensures.is
    ∙ ap (λ k. 7 ^ k) (places_are c.args.digits n (omega (arith, c.requires)) less least))
