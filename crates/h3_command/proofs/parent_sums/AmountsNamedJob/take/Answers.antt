use Rattle.std.proofs.Common.{ℤ, ◌∙◌, ◌++◌, ◌∷◌, [], ap, refl}
use Rattle.std.proofs.lemmas.List.{map-append}
use Rattle.h3_index.specs.Cell.{Address}
use Rattle.h3_numbers.specs.declared.number.Number.{Number}
use Rattle.h3_command.specs.AreaSums.{Amount}
use Rattle.h3_command.specs.ParentEntries.{amount_of, amounts_of}
use Rattle.h3_command.proofs.parent_sums.AmountsNamedJob.take.Goals as goal

abbrev one : Address → ℤ → Amount
one cell u = (cell, u)

pub returns-in-Ok-push-clause-ok : goal.returns-in-Ok-push-clause-ok
returns-in-Ok-push-clause-ok c =
    let pairs = c.args.self.now.pairs.items in
    let cell = c.in-Some.cell in
    let pair : Address × Number = (cell, c.amount_in-number.result) in
    rw c.in-Some.is (record {
      quotes_kept = refl;
      title_is = refl;
      more =
          ap amounts_of c.in-Ok-push.ensures.items ∙ map-append amount_of pairs (pair ∷ [])
          ∙ ap (λ (u : ℤ). amounts_of pairs ++ one cell u ∷ []) c.amount_in-number.ensures;
    })
