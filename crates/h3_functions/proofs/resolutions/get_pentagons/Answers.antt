use Rattle.std.proofs.Common.{w32, rules, of_z, to_z, ◌≡◌, ◌∙◌, ℤ, Ok, Err, ap, sym, subst}
use Rattle.std.specs.Iterator.{YieldsFirst}
use Rattle.std.specs.Option.{option_map_or}
use Rattle.std.proofs.lemmas.Int.{to_z-of_z}
use Rattle.std.proofs.lemmas.Iterator.Consumers.{YieldsList-from_first}
use Rattle.h3_index.specs.Count.{pentagons}
use Rattle.h3_index.specs.declared.error.H3Error.TheVariants.{ResDomain}
use Rattle.h3_functions.specs.Bases.{pentagons_left}
use Rattle.h3_functions.specs.Resolutions.{get_pentagons}
use Rattle.h3_functions.specs.Items.{Lists}
use Rattle.h3_functions.proofs.resolutions.get_pentagons.Goals as goal

pub returns : goal.returns
returns c =
    let read : ℤ = to_z w32 (of_z w32 c.args.res) in
    let same : read ≡ c.args.res = to_z-of_z w32 c.args.res (search rules) in
    let is : get_pentagons c.args.res ≡ Ok (pentagons c.in_ok-res.res) =
    sym (ap get_pentagons same)
    ∙ ap (λ o. option_map_or (λ r. Ok (pentagons r)) o (Err ResDomain)) c.in_ok-res.ensures.ok.0 in
    subst (Lists (YieldsFirst pentagons_left) (Ok c.of_resolution.result)) (sym is)
    (YieldsList-from_first (λ x. x) pentagons_left (pentagons c.in_ok-res.res) c.of_resolution.ensures).runs
