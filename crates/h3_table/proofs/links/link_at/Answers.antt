use Rattle.std.proofs.Common.{arith, refl}
use Rattle.std.proofs.lemmas.List.Elements.{All-get_or}
use Rattle.h3_table.specs.Links.{IsLink, links_in, no_link, pair_of}
use Rattle.h3_table.proofs.links.link_at.Goals as goal

pub returns-clause-is : goal.returns-clause-is
unfolding links_in
returns-clause-is c = rw c.slot_of.ensures.is refl

pub returns-clause-within : goal.returns-clause-within
returns-clause-within c =
    λ all. All-get_or (λ l. IsLink (pair_of l)) c.args.links.now c.slot_of.result no_link (omega arith) all
