-- Three small tables for tests, none of them the table of H3's base cells.
--
-- The base cells stand in a row that closes to a ring of 122, and each direction goes a fixed step along it.
use Rattle.std.specs.Prelude.{ℕ, ◌+◌, ◌-◌, ◌%◌}
use Rattle.h3_directions.specs.declared.direction.Direction.{Direction}
use Rattle.h3_directions.specs.declared.direction.Direction.TheVariants.{K, J, JK, I, IK, IJ}
use Rattle.h3_table.specs.declared.vectors.TestTable.{TestTable}
use Rattle.h3_table.specs.declared.vectors.TestTable.TheVariants.{Plain, Twisted, Skew}
use Rattle.h3_directions.specs.Direction.{turned}
use Rattle.h3_table.specs.Links.{Links}

-- the step in a direction: those in opposite directions add up to the whole ring
abbrev pub plain_step : Direction → ℕ
plain_step K = 110
plain_step J = 11
plain_step JK = 121
plain_step I = 1
plain_step IK = 111
plain_step IJ = 12

abbrev pub plain_neighbor : ℕ → Direction → ℕ
plain_neighbor b d = (b + plain_step d) % 122

-- two steps that differ from the plain ones, so that some corners do not close
abbrev pub skew_step : Direction → ℕ
skew_step K = 109
skew_step J = 11
skew_step JK = 121
skew_step I = 1
skew_step IK = 111
skew_step IJ = 13

-- how often the frame of a base cell is turned in the twisted table
abbrev pub twist : ℕ → ℕ
twist b = b % 6

-- a direction turned back n times, n at most 6
abbrev pub turned_back : ℕ → Direction → Direction
turned_back n d = turned (6 - n) d

abbrev pub twisted_neighbor : ℕ → Direction → ℕ
twisted_neighbor b d = plain_neighbor b (turned_back (twist b) d)

-- test_link table: the links of the test tables
abbrev pub test_link : TestTable → Links
test_link Plain b d = (plain_neighbor b d, 0)
test_link Twisted b d = (twisted_neighbor b d, (twist (twisted_neighbor b d) + 6 - twist b) % 6)
test_link Skew b d = ((b + skew_step d) % 122, 0)
