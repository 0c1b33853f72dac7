use Rattle.std.specs.List.{AllWithin}
use Rattle.h3_index.specs.Cell.{IsCell}
use Rattle.h3_regions.proofs.order.have_cells.Given as goal

abbrev pub invariant-loop-pair : goal.invariant-loop-pair
invariant-loop-pair l = AllWithin (λ p. IsCell p.0) l.pairs 0 l.pair-index
