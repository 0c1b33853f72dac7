-- The edges of a cell in six places.
use Rattle.std.proofs.Common.{◌≡◌, Bool, true, false, ◌∷◌, [], refl}
use Rattle.h3_index.specs.Cell.{Address, is_pentagon}
use Rattle.h3_grid.specs.DirectedEdges.{edges_from}
use Rattle.h3_c.specs.Edges.{edge_or_null, six_places}

places_at : (c : Address) (b : Bool) → is_pentagon c ≡ b
    → edge_or_null c 1 ∷ edge_or_null c 2 ∷ edge_or_null c 3 ∷ edge_or_null c 4 ∷ edge_or_null c 5 ∷ edge_or_null c 6
    ∷ []
    ≡ six_places (edges_from c)
unfolding edges_from
places_at c true is = rw is refl
places_at c false is = rw is refl

pub places : (c : Address)
    → edge_or_null c 1 ∷ edge_or_null c 2 ∷ edge_or_null c 3 ∷ edge_or_null c 4 ∷ edge_or_null c 5 ∷ edge_or_null c 6
    ∷ []
    ≡ six_places (edges_from c)
places c = places_at c (is_pentagon c) refl
