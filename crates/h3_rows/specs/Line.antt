-- A row and its ending, as code has them. Private contracts and proofs alone cite this file.
use Rattle.std.specs.Prelude.{ℕ, List, ◌++◌, replicate}
use Rattle.h3_rows.specs.declared.row.Row.{Row}

-- the line that a row is: itself, and the carriage returns at its end
abbrev pub line_of : Row → List ℕ
line_of r = r.body.now ++ replicate r.returns 13
