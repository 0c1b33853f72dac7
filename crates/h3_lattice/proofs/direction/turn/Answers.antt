use Rattle.std.proofs.Common.{◌≡◌, ◌∙◌, ap, arith}
use Rattle.h3_directions.specs.Direction.{turned, unit_of}
use Rattle.h3_lattice.proofs.LinearLaws.{unit_of-turned}
use Rattle.h3_lattice.proofs.direction.turn.Goals as goal

pub returns-clause-product : goal.returns-clause-product
returns-clause-product c =
    let all : c.loop-done._done ≡ c.args.n = omega arith in
    ap unit_of c.loop-done.invariant ∙ ap (λ n. unit_of (turned n c.args.direction)) all
    ∙ unit_of-turned c.args.n c.args.direction
