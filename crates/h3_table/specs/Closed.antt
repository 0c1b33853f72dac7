-- Links that all lead to pentagon base cells, so that no step goes along them.
use Rattle.std.specs.Prelude.{ℕ}
use Rattle.h3_directions.specs.declared.direction.Direction.{Direction}
use Rattle.h3_directions.specs.declared.direction.Direction.TheVariants.{K, J, JK, I, IK, IJ}

-- closed_link d: the link of a closed table: to one of six pentagon base cells, a different one for each direction,
-- without turns
abbrev pub closed_link : Direction → ℕ × ℕ
closed_link K = (4, 0)
closed_link J = (14, 0)
closed_link JK = (24, 0)
closed_link I = (38, 0)
closed_link IK = (49, 0)
closed_link IJ = (58, 0)
