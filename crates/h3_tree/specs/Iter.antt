-- The cells of one base cell and one resolution, one after another.
use Rattle.std.specs.Prelude.{ℕ, zero, suc, List, [], ◌∷◌, unwrap_or}
use Rattle.h3_index.specs.Cell.{Address, is_pentagon_base}
use Rattle.h3_index.specs.Paths.{next_path}

-- the next cell of the same base cell and resolution; after the last one, the last one itself
unfoldable pub following : Address → Address
following c = record { base = c.base; digits = unwrap_or (next_path (is_pentagon_base c.base) c.digits) c.digits }

-- that many cells, from one on
unfoldable pub cells_from : ℕ → Address → List Address
cells_from zero c = []
cells_from (suc n) c = c ∷ cells_from n (following c)
