-- What H3's functions on lists of cells return.
use Rattle.std.specs.Prelude.{ℕ, ℤ, List, length, unsigned_abs, Result}
use Rattle.h3_index.specs.Cell.{Address}
use Rattle.h3_index.specs.declared.error.H3Error.{H3Error}
use Rattle.h3_set.specs.Compacted.{compacted}
use Rattle.h3_set.specs.Refusals.{compaction_refusal}
use Rattle.h3_set.specs.Uncompaction.{uncompacted, uncompact_refusal}
use Rattle.h3_functions.specs.Hierarchy.{unless}

-- compact_cells cells: `compacted` of `h3_set`, or the error
abbrev pub compact_cells : List Address → Result (List Address) H3Error
compact_cells cells = unless (compaction_refusal cells) (compacted cells)

-- uncompact_cells r cells: `uncompacted` of `h3_set`, or the error
abbrev pub uncompact_cells : ℤ → List Address → Result (List Address) H3Error
uncompact_cells res cells = unless (uncompact_refusal cells res) (uncompacted cells (unsigned_abs res))

-- uncompact_cells_size r cells: how many cells `uncompact_cells` lists, or its error
abbrev pub uncompact_cells_size : ℤ → List Address → Result ℕ H3Error
uncompact_cells_size res cells = unless (uncompact_refusal cells res) (length (uncompacted cells (unsigned_abs res)))
