-- What two lists of cells share, and what one has beyond the other: compacted lists.
use Rattle.std.specs.Prelude.{ℕ, List, max, not}
use Rattle.std.specs.List.{filter}
use Rattle.h3_index.specs.Cell.{Address}
use Rattle.h3_set.specs.Compacted.{compacted}
use Rattle.h3_set.specs.Coverage.{finest, is_covered}
use Rattle.h3_set.specs.Uncompaction.{uncompacted}

-- finest_of_both a b: the finest resolution of the cells of two lists
abbrev pub finest_of_both : List Address → List Address → ℕ
finest_of_both a b = max (finest a) (finest b)

-- intersection a b: of the cells that the first list covers at that resolution those that the second covers too,
-- compacted
unfoldable pub intersection : List Address → List Address → List Address
intersection a b = compacted (filter (is_covered b) (uncompacted a (finest_of_both a b)))

-- difference a b: those of them that the second does not cover, compacted
unfoldable pub difference : List Address → List Address → List Address
difference a b = compacted (filter (λ x. not (is_covered b x)) (uncompacted a (finest_of_both a b)))
