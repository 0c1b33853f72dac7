use Rattle.std.proofs.lemmas.Iterator.Consumers.{YieldsList-from_first}
use Rattle.h3_grid.specs.DirectedEdges.{edges_from}
use Rattle.h3_grid.specs.Iter.{edges_left}
use Rattle.h3_functions.proofs.edges.origin_to_directed_edges.Goals as goal

pub returns : goal.returns
returns c =
    rw (← c.in_ok-cell.ensures)
    (YieldsList-from_first (λ x. x) edges_left (edges_from c.in_ok-cell.cell) c.edges_of.ensures.items).runs
