use Rattle.std.proofs.Common.{Some, ap, ◌∙◌, subst, sym}
use Rattle.h3_index.specs.Cell.{IsCell, number_of}
use Rattle.h3_index.proofs.CellLaws.{address_in-number_of}
use Rattle.h3_index.proofs.CellTestLaws.{cell_in-some}
use Rattle.h3_index.proofs.laws.numbers_are_read.Goals as goal

pub returns : goal.returns
returns g cell valid =
    let same = address_in-number_of cell valid in
    cell_in-some (number_of cell) (record { is = ap number_of same; valid = subst IsCell (sym same) valid })
    ∙ ap Some same
