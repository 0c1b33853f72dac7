use Rattle.std.proofs.Common.{◌∙◌, refl, sym, ap, append-nil}
use Rattle.h3_c.specs.Lists.{indexes, laid_over}
use Rattle.h3_c.specs.Walks.{given, items_code}
use Rattle.h3_c.proofs.disks.put_disk_of.Goals as goal

pub returns-then-is_refused-clause-code : goal.returns-then-is_refused-clause-code
unfolding items_code
returns-then-is_refused-clause-code c = rw (sym c.if-is_refused.ensures) refl

pub returns-then-is_refused-clause-put : goal.returns-then-is_refused-clause-put
unfolding given
returns-then-is_refused-clause-put c before first long begun =
    rw (sym c.if-is_refused.ensures) (begun ∙ ap (λ l. laid_over (indexes l) first) (sym (append-nil before)))

pub returns-in-Err-clause-code : goal.returns-in-Err-clause-code
unfolding items_code
returns-in-Err-clause-code c =
    rw (sym c.if-is_refused.ensures, sym c.in-Err.ensures) (c.from.ensures ∙ c.number.ensures)

pub returns-in-Err-clause-put : goal.returns-in-Err-clause-put
unfolding given
returns-in-Err-clause-put c before first long begun =
    rw (sym c.if-is_refused.ensures, sym c.in-Err.ensures)
    (begun ∙ ap (λ l. laid_over (indexes l) first) (sym (append-nil before)))
