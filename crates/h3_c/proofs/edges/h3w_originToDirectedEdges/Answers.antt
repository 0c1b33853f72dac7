use Rattle.std.proofs.Common.{◌∙◌, Ok, ap}
use Rattle.std.specs.Result.{result_unwrap_or}
use Rattle.h3_grid.specs.DirectedEdges.{edges_from}
use Rattle.h3_functions.specs.Inspection.{for_value}
use Rattle.h3_c.specs.Edges.{edges_or_nulls}
use Rattle.h3_c.proofs.SixPlaces.{places}
use Rattle.h3_c.proofs.edges.h3w_originToDirectedEdges.Goals as goal

pub returns-in-Ok-clause-value : goal.returns-in-Ok-clause-value
returns-in-Ok-clause-value c =
    rw (
      c.edge_or_null.ensures,
      c.edge_or_null-in-Ok.ensures,
      c.edge_or_null-in-Ok-2.ensures,
      c.edge_or_null-in-Ok-3.ensures,
      c.edge_or_null-in-Ok-4.ensures,
      c.edge_or_null-in-Ok-5.ensures,
    )
    (places c.in-Ok.cell ∙ ap (λ r. result_unwrap_or
    (edges_or_nulls (for_value (λ cell. Ok (edges_from cell)) r)) c.args.out.now) c.in-Ok.ensures)
