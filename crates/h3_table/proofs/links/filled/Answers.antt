use Rattle.std.proofs.Common.{refl, arith}
use Rattle.std.proofs.lemmas.List.Elements.{All-replicate}
use Rattle.h3_table.specs.Links.{IsLink, no_link, pair_of}
use Rattle.h3_table.proofs.links.filled.Goals as goal

pub loop-i-init : goal.loop-i-init
loop-i-init c =
    (refl, All-replicate (λ l. IsLink (pair_of l)) 732 no_link (omega arith, omega arith), λ k h. absurd (omega arith))
