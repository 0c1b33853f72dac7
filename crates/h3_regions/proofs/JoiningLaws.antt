-- The zones of a list's cells, as they are written.
use Rattle.std.proofs.Common.{ℕ, suc, ◌≡◌, ◌<◌, ◌≤◌, List, [], ◌∷◌, length, map, Option, refl, arith, get_or}
use Rattle.h3_index.specs.Cell.{Address}
use Rattle.h3_regions.specs.Zones.{zone_of}
use Rattle.h3_regions.proofs.ListLaws.{as_map}

-- the zones of the first k cells are written
pub record IsJoining (zones cells : List Address) (places : List (Option Address)) (k : ℕ) : Type 0 where
  pub size : length places ≡ length cells
  pub each : (i : ℕ) (d : Address) (e : Option Address) → i < k → get_or places i e ≡ zone_of zones (get_or cells i d)

pub all_joined : (zones cells : List Address) (places : List (Option Address)) (k : ℕ) → length cells ≤ k
    → IsJoining zones cells places k → places ≡ map (zone_of zones) cells
all_joined zones cells places k le inv =
    as_map (zone_of zones) cells places inv.size (λ i d e lt. inv.each i d e (omega (arith, lt, le)))
