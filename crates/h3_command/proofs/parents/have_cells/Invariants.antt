use Rattle.std.specs.List.{AllWithin}
use Rattle.h3_index.specs.Cell.{IsCell}
use Rattle.h3_command.proofs.parents.have_cells.Given as goal

abbrev pub invariant-loop-item : goal.invariant-loop-item
invariant-loop-item g l = AllWithin (λ t. IsCell (g.T.HasCell.cell_of t)) l.items 0 l.item-index
