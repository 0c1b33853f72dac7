-- What is known of a `Children`.
use Rattle.std.specs.Prelude.{List}
use Rattle.h3_index.specs.Cell.{Address}
use Rattle.h3_tree.specs.Iter.{cells_from}
use Rattle.h3_tree.specs.declared.iter.Children.{Children}

-- children_left s: the cells that a `Children` has still to give
unfoldable pub children_left : Children → List Address
children_left s = cells_from s.left s.next
