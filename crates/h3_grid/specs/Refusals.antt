-- Which walks are refused before they begin.
use Rattle.std.specs.Prelude.{ℤ, pos, negsuc, nat_lt, ◌&&◌, ◌||◌, Option, Some, None, if◌then◌else◌}
use Rattle.h3_index.specs.Cell.{Address, is_pentagon, is_pentagon_base}
use Rattle.h3_index.specs.declared.error.H3Error.{H3Error}
use Rattle.h3_index.specs.declared.error.H3Error.TheVariants.{Domain, Pentagon}

-- radius_refusal k: the error of a negative radius
abbrev pub radius_refusal : ℤ → Option H3Error
radius_refusal (negsuc n) = Some Domain
radius_refusal (pos k) = None

-- disk_refusal c k: the error with which a disk is refused before it begins
--
-- of the disk around c: first a negative radius, then a pentagon, and a radius of 1 or more in a pentagon base cell
abbrev pub disk_refusal : Address → ℤ → Option H3Error
disk_refusal c (negsuc n) = Some Domain
disk_refusal c (pos k) = if is_pentagon c || (nat_lt 0 k && is_pentagon_base c.base) then Some Pentagon else None

-- ring_refusal c k: the same of a ring
--
-- of the ring around c: first a negative radius, then a radius of 1 or more in a pentagon base cell
abbrev pub ring_refusal : Address → ℤ → Option H3Error
ring_refusal c (negsuc n) = Some Domain
ring_refusal c (pos k) = if nat_lt 0 k && is_pentagon_base c.base then Some Pentagon else None
