-- The indexes of words.
use Rattle.std.specs.Prelude.{ℕ, Option, ok_or, Result}
use Rattle.h3_index.specs.Cell.{Address}
use Rattle.h3_index.specs.Edge.{DirectedEdge}
use Rattle.h3_index.specs.declared.error.H3Error.{H3Error}
use Rattle.h3_index.specs.declared.error.H3Error.TheVariants.{Failed}
use Rattle.h3_functions.specs.Edges.{edge_from}
use Rattle.h3_functions.specs.Inspection.{cell_from, for_value}

-- index_given word: the index of a word, or `Failed` where it has none
abbrev pub index_given : Option ℕ → Result ℕ H3Error
index_given word = ok_or word Failed

-- cell_given word: the cell with the index of a word: `Failed` where the word has none, `CellInvalid` where no cell has
-- it
abbrev pub cell_given : Option ℕ → Result Address H3Error
cell_given word = for_value cell_from (index_given word)

-- edge_given word: the edge with the index of a word: `Failed` where the word has none, `DirEdgeInvalid` where no edge
-- has it
abbrev pub edge_given : Option ℕ → Result DirectedEdge H3Error
edge_given word = for_value edge_from (index_given word)
