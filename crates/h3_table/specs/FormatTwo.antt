-- Format 2 of a table file: a record for each hexagon base cell.
--
-- After the base cell come its six neighbors in the order of the digits 1 to 6, and then the six numbers of turns in
-- the same order.
use Rattle.std.specs.Prelude.{ℕ, ◌+◌, Bool, ◌==◌, ◌&&◌, nat_lt, if◌then◌else◌, List, [], ◌∷◌, Option, Some, None, slice_index, codes}
use Rattle.std.specs.List.{list_all}
use Rattle.h3_directions.specs.declared.direction.Direction.{Direction}
use Rattle.h3_directions.specs.Direction.{digit_of, directions}
use Rattle.h3_table.specs.Fields.{Record}
use Rattle.h3_table.specs.Links.{is_hexagon_base, is_link}

-- the header
abbrev pub header_two : Record
header_two =
    codes "base"
    ∷ codes "k" ∷ codes "j" ∷ codes "jk" ∷ codes "i" ∷ codes "ik" ∷ codes "ij"
    ∷ codes "rk" ∷ codes "rj" ∷ codes "rjk" ∷ codes "ri" ∷ codes "rik" ∷ codes "rij" ∷ []

-- the neighbor and the turns in the direction of a digit
abbrev pub link_at_digit : ℕ → List ℕ → ℕ × ℕ
link_at_digit d ns = (slice_index ns d, slice_index ns (6 + d))

-- in this direction, a link
abbrev pub is_link_two : List ℕ → Direction → Bool
is_link_two ns d = is_link (link_at_digit (digit_of d) ns)

-- a hexagon base cell, and links in all directions
abbrev pub in_range_two : List ℕ → Bool
in_range_two ns = is_hexagon_base (slice_index ns 0) && list_all (is_link_two ns) directions

-- the link in a record's numbers for a base cell and the direction of a digit
abbrev pub link_two : ℕ → ℕ → List ℕ → Option (ℕ × ℕ)
link_two b d ns = if (slice_index ns 0 == b) && (nat_lt 0 d && nat_lt d 7) then Some (link_at_digit d ns) else None
