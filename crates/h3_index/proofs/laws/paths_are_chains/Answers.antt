use Rattle.h3_index.proofs.ChainLaws.{chain_only}
use Rattle.h3_index.proofs.laws.paths_are_chains.Goals as goal

pub returns : goal.returns
returns c = chain_only
