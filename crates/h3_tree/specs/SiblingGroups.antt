-- Descendants by groups of siblings, and what is known of a `SiblingGroups`.
use Rattle.std.specs.Prelude.{ℕ, ◌≡◌, ◌-◌, ◌<◌, List}
use Rattle.std.specs.List.{flat_map}
use Rattle.h3_index.specs.Cell.{Address, resolution}
use Rattle.h3_index.specs.Descendants.{children, descendants}
use Rattle.h3_tree.specs.Children.{children_left}
use Rattle.h3_tree.specs.declared.sibling_groups.SiblingGroups.{SiblingGroups}

-- parents_left f: the cells whose children a `SiblingGroups` has still to give
unfoldable pub parents_left : SiblingGroups → List Address
parents_left f = children_left f.parents

-- DescendantsAreChildren: the descendants of a cell are the children of those one level above, in their order
abbrev pub DescendantsAreChildren : Type 0
DescendantsAreChildren =
    (c : Address) (r : ℕ) → resolution c < r → flat_map children (descendants c (r - 1)) ≡ descendants c r
