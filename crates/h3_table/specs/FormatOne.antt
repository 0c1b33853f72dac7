-- Format 1 of a table file: a record for each hexagon base cell and direction.
use Rattle.std.specs.Prelude.{ℕ, Bool, ◌==◌, ◌&&◌, nat_lt, if◌then◌else◌, List, [], ◌∷◌, Option, Some, None, slice_index, codes}
use Rattle.h3_table.specs.Fields.{Record}
use Rattle.h3_table.specs.Links.{is_hexagon_base, is_link}

-- the header
abbrev pub header_one : Record
header_one = codes "base" ∷ codes "dir" ∷ codes "to" ∷ codes "rot" ∷ []

-- a hexagon base cell, a direction's digit and a link
abbrev pub in_range_one : List ℕ → Bool
in_range_one ns =
    is_hexagon_base (slice_index ns 0) && nat_lt 0 (slice_index ns 1) && nat_lt (slice_index ns 1) 7
    && is_link (slice_index ns 2, slice_index ns 3)

-- the link in a record's numbers for a base cell and the direction of a digit
abbrev pub link_one : ℕ → ℕ → List ℕ → Option (ℕ × ℕ)
link_one b d ns =
    if (slice_index ns 0 == b) && (slice_index ns 1 == d) then Some (slice_index ns 2, slice_index ns 3) else None
