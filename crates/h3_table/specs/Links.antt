-- Links between base cells, and when they fit together.
--
-- A hexagon base cell has a link for each direction in its own frame: the base cell that lies there, and how often each
-- digit is turned on crossing into it.
use Rattle.std.specs.Prelude.{◌≡◌, ◌≢◌, ℕ, ◌+◌, ◌-◌, ◌*◌, ◌%◌, ◌<◌, Bool, false, not, ◌&&◌, nat_lt, List, slice_index_or, All}
use Rattle.h3_index.specs.Cell.{is_pentagon_base}
use Rattle.h3_directions.specs.declared.direction.Direction.{Direction}
use Rattle.h3_table.specs.declared.links.Link.{Link}
use Rattle.h3_directions.specs.Direction.{digit_of, opposite, turned, turned_once}

-- the base cells that are hexagons
abbrev pub IsHexagonBase : ℕ → Type 0
IsHexagonBase b = (b < 122) × (is_pentagon_base b ≡ false)

-- the same as a test
unfoldable pub is_hexagon_base : ℕ → Bool
is_hexagon_base b = nat_lt b 122 && not (is_pentagon_base b)

-- IsLink: a base cell of 0 to 121, and 0 to 5 turns
abbrev pub IsLink : ℕ × ℕ → Type 0
IsLink link = (link.0 < 122) × (link.1 < 6)

-- the same as a test
abbrev pub is_link : ℕ × ℕ → Bool
is_link link = nat_lt link.0 122 && nat_lt link.1 6

-- Links: for a base cell and a direction, the base cell that lies there and how often digits are turned on crossing
abbrev pub Links : Type 0
Links = ℕ → Direction → ℕ × ℕ

-- pair_of link: a link that is held in two bytes, as the neighbor and the turns
abbrev pub pair_of : Link → ℕ × ℕ
pair_of l = (l.to, l.turns)

-- AreLinks list: each of them is a link
abbrev pub AreLinks : List Link → Type 0
AreLinks = All (λ l. IsLink (pair_of l))

-- the link in the place of one that there is not
abbrev pub no_link : Link
no_link = record { to = 0; turns = 0 }

-- the slot of a base cell and the direction of a digit in a list with six for each base cell
abbrev pub slot_of : ℕ → ℕ → ℕ
slot_of b d = b * 6 + (d - 1)

-- links_in list: the links of a list, six for each base cell
unfoldable pub links_in : List Link → Links
links_in links b d = pair_of (slice_index_or links (slot_of b (digit_of d)) no_link)

-- ---- links that fit together

-- IsSound link: for all hexagon base cells: links are links, the six neighbors differ from each other and from the base
-- cell, the link back undoes the link, and the links round each corner agree
--
-- For each hexagon base cell b and direction d: b's six neighbors differ from each other and from b (apart, away).
-- From a neighbor that is a hexagon base cell, the link in the opposite direction, turned as on crossing, leads back
-- and undoes the turns (reversal). Where the neighbors in d and in d turned once are both hexagon base cells, the link
-- of the first in d turned twice, and as on crossing, leads to the second, and its turns make up the difference
-- (corner).
pub record IsSound (link : Links) : Type 0 where
  pub within : (b : ℕ) (d : Direction) → IsHexagonBase b → IsLink (link b d)
  pub apart : (b : ℕ) (d e : Direction) → IsHexagonBase b → (link b d).0 ≡ (link b e).0 → d ≡ e
  pub away : (b : ℕ) (d : Direction) → IsHexagonBase b → (link b d).0 ≢ b
  pub reversal : (b : ℕ) (d : Direction) → IsHexagonBase b → IsHexagonBase (link b d).0
      → link (link b d).0 (turned (link b d).1 (opposite d)) ≡ (b, (6 - (link b d).1) % 6)
  pub corner : (b : ℕ) (d : Direction) → IsHexagonBase b → IsHexagonBase (link b d).0
      → IsHexagonBase (link b (turned_once d)).0
      → link (link b d).0 (turned (link b d).1 (turned 2 d))
      ≡ ((link b (turned_once d)).0, ((link b (turned_once d)).1 + 6 - (link b d).1) % 6)
