-- The checks of a full table, and the first that fails.
use Rattle.std.specs.Prelude.{ℕ, zero, suc, ◌+◌, ◌-◌, ◌%◌, Bool, not, ◌==◌, ◌&&◌, ◌||◌, if◌then◌else◌, List, [], ◌∷◌, Option, Some, None}
use Rattle.std.specs.Option.{option_or}
use Rattle.std.specs.List.{list_all}
use Rattle.h3_directions.specs.declared.direction.Direction.{Direction}
use Rattle.h3_directions.specs.declared.error.TableError.{TableError}
use Rattle.h3_directions.specs.declared.error.TableError.TheVariants as fault
use Rattle.h3_table.specs.declared.checks.Check.{Check}
use Rattle.h3_table.specs.declared.checks.Check.TheVariants as check
use Rattle.h3_directions.specs.Direction.{digit_of, directions, opposite, turned, turned_once}
use Rattle.h3_table.specs.Links.{Links, is_hexagon_base}

-- ---- the checks at one base cell and direction

abbrev pub same_link : ℕ × ℕ → ℕ × ℕ → Bool
same_link p q = (p.0 == q.0) && (p.1 == q.1)

-- two directions are one, or lead to different base cells
abbrev pub are_apart : Links → ℕ → Direction → Direction → Bool
are_apart link b d e = (digit_of e == digit_of d) || not ((link b e).0 == (link b d).0)

-- the neighbor in this direction is not b, and in no other direction
abbrev pub leads_apart : Links → ℕ → Direction → Bool
leads_apart link b d = not ((link b d).0 == b) && list_all (are_apart link b d) directions

-- the link back leads to b and undoes the turns
abbrev pub reverses : Links → ℕ → Direction → Bool
reverses link b d = not (is_hexagon_base (link b d).0)
    || same_link (link (link b d).0 (turned (link b d).1 (opposite d))) (b, (6 - (link b d).1) % 6)

-- round the corner of b, this neighbor and the next one, the links agree
abbrev pub closes : Links → ℕ → Direction → Bool
closes link b d = not (is_hexagon_base (link b d).0) || not (is_hexagon_base (link b (turned_once d)).0)
    || same_link (link (link b d).0 (turned (link b d).1 (turned 2 d)))
    ((link b (turned_once d)).0, ((link b (turned_once d)).1 + 6 - (link b d).1) % 6)

-- ---- the first fault

abbrev pub error_unless : Bool → TableError → Option TableError
error_unless holds e = if holds then None else Some e

-- the first fault in one of these directions
unfoldable pub in_directions : (Direction → Option TableError) → List Direction → Option TableError
in_directions f [] = None
in_directions f (d ∷ rest) = option_or (f d) (in_directions f rest)

-- the first fault at a hexagon base cell, of n base cells from b on
unfoldable pub from_base : (ℕ → Direction → Option TableError) → ℕ → ℕ → Option TableError
from_base f b zero = None
from_base f b (suc n) =
    option_or (if is_hexagon_base b then in_directions (f b) directions else None) (from_base f (b + 1) n)

-- the first fault of all, by ascending base cell and then direction
abbrev pub at_links : (ℕ → Direction → Option TableError) → Option TableError
at_links f = from_base f 0 122

-- the error of a check at a base cell and a direction
abbrev pub fault_at : Check → Links → ℕ → Direction → Option TableError
fault_at check.Neighbors link b d = error_unless (leads_apart link b d) (fault.Neighbours b)
fault_at check.Reversal link b d = error_unless (reverses link b d) (fault.Reversal b d)
fault_at check.Corner link b d = error_unless (closes link b d) (fault.Corner b d)

-- fault_of_links link: the first of the three checks that a full table fails, one after the other, each by ascending
-- base cell and direction
abbrev pub fault_of_links : Links → Option TableError
fault_of_links link =
    option_or (at_links (fault_at check.Neighbors link))
    (option_or (at_links (fault_at check.Reversal link)) (at_links (fault_at check.Corner link)))
