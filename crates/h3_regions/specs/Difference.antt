-- What is left of cells where those of a list are taken away, in post order. Private contracts and proofs alone cite
-- this file: `difference` says it in public.
use Rattle.std.specs.Prelude.{ℕ, zero, suc, ◌+◌, ◌-◌, ◌^◌, List, [], ◌∷◌, Bool, if◌then◌else◌}
use Rattle.std.specs.List.{flat_map, list_any}
use Rattle.h3_index.specs.Cell.{Address, resolution}
use Rattle.h3_index.specs.Descendants.{children}
use Rattle.h3_tree.specs.PostOrder.{post_order_key}
use Rattle.h3_set.specs.Coverage.{is_ancestor, is_covered}

-- the lowest key that a cell below x may have: the keys of x and those below it are an interval that ends at its own
abbrev pub lowest_key : Address → ℕ
lowest_key x = post_order_key x + 1 - 8 ^ (15 - resolution x)

-- a cell of the list is x, or stands below it
abbrev pub has_below : List Address → Address → Bool
has_below cells x = list_any (λ c. is_ancestor x c) cells

-- Of a cell nothing is left where one of the list is it or stands above it, all where none stands below it, and else
-- what is left of its children; n levels down at most.
unfoldable pub left_of : List Address → ℕ → Address → List Address
left_of others zero c = if is_covered others c then [] else (c ∷ [])
left_of others (suc n) c =
    if is_covered others c then []
    else (if has_below others c then flat_map (left_of others n) (children c) else (c ∷ []))

-- the same of the cells of a list, one after another
unfoldable pub left_of_all : List Address → List Address → List Address
left_of_all cells others = flat_map (λ c. left_of others (15 - resolution c) c) cells
