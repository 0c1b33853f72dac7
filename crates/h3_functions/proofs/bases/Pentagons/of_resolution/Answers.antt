use Rattle.std.proofs.Common.{refl}
use Rattle.h3_index.specs.Count.{pentagons}
use Rattle.h3_functions.specs.Bases.{pentagons_left}
use Rattle.h3_functions.proofs.bases.Pentagons.of_resolution.Goals as goal

pub returns : goal.returns
unfolding pentagons_left pentagons
returns c = refl
