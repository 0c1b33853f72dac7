-- Which resolutions are refused: those that a cell has no ancestor or no descendants at. Which positions are: those
-- that no descendant has.
use Rattle.std.specs.Prelude.{ℕ, ℤ, nat_lt, nat_le, length, Option, Some, None, if◌then◌else◌}
use Rattle.std.specs.Option.{option_map_or}
use Rattle.h3_index.specs.Cell.{Address, resolution}
use Rattle.h3_index.specs.Count.{resolution_of}
use Rattle.h3_index.specs.Descendants.{descendants}
use Rattle.h3_index.specs.declared.error.H3Error.{H3Error}
use Rattle.h3_index.specs.declared.error.H3Error.TheVariants.{Domain, ResDomain, ResMismatch}

-- parent_refusal r p: the error where a cell of resolution r has no ancestor at p
abbrev pub parent_refusal : ℕ → ℤ → Option H3Error
parent_refusal r res =
    option_map_or (λ p. if nat_lt r p then Some ResMismatch else None) (resolution_of res) (Some ResDomain)

-- descent_refusal r s: the error where it has no descendants at s
abbrev pub descent_refusal : ℕ → ℤ → Option H3Error
descent_refusal r res =
    option_map_or (λ s. if nat_lt s r then Some ResDomain else None) (resolution_of res) (Some ResDomain)

-- position_refusal c s n: the error where c has no descendant at resolution s and position n
--
-- of the descendant of c at a position: first a number that is no resolution, then one that is coarser than c, then a
-- position past all descendants
abbrev pub position_refusal : Address → ℤ → ℕ → Option H3Error
position_refusal c res position =
    option_map_or (λ s. if nat_lt s (resolution c) then Some ResMismatch
    else (if nat_le (length (descendants c s)) position then Some Domain else None)) (resolution_of res)
    (Some ResDomain)
