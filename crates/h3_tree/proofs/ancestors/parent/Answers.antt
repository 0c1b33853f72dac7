use Rattle.std.proofs.Common.{◌≡◌, None, rules, w32}
use Rattle.std.proofs.lemmas.Int.{to_z-of_z}
use Rattle.h3_index.specs.Count.{resolution_of}
use Rattle.h3_tree.proofs.AncestorLaws.{none_beyond}
use Rattle.h3_tree.proofs.ancestors.parent.Goals as goal

pub returns-in_err-r-clause-one : goal.returns-in_err-r-clause-one
returns-in_err-r-clause-one c = λ other above at_res.
    let none : resolution_of c.args.res ≡ None =
    rw (to_z-of_z w32 c.args.res (search rules)) at c.in_err-r.ensures.err.0 in
    absurd (none_beyond other c.args.cell c.args.res c.resolution-own.ensures.valid above at_res none)
