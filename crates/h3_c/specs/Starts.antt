-- Lists of which each index of a column has one, one after another: where each begins, and which of them have room.
use Rattle.std.specs.Prelude.{◌≡◌, ◌<◌, ℕ, ℤ, suc, ◌+◌, ◌-◌, ◌^◌, List, [], ◌∷◌, map, length, take, nat_le, nat_lt, Result, slice_index, slice_range, if◌then◌else◌}
use Rattle.std.specs.List.{flat_map}
use Rattle.std.specs.Result.{result_unwrap_or}
use Rattle.h3_index.specs.Cell.{Address}
use Rattle.h3_index.specs.Error.{error_number}
use Rattle.h3_index.specs.declared.error.H3Error.{H3Error}
use Rattle.h3_index.specs.declared.error.H3Error.TheVariants.{ResDomain}
use Rattle.h3_functions.specs.Hierarchy.{cell_to_children, cell_to_children_size}
use Rattle.h3_c.specs.Column.{first_code, first_place, if_resolution}
use Rattle.h3_c.specs.Lists.{indexes, laid_over}

-- sizes_of outcomes: how many items there are for each index; none where it is refused
abbrev pub sizes_of : List (Result ℕ H3Error) → List ℕ
sizes_of outcomes = map (λ r. result_unwrap_or r 0) outcomes

-- starts_from place sizes: the place where each of the lists of these sizes begins, one after another from a place on,
-- and then the place where the last one ends
unfoldable pub starts_from : ℕ → List ℕ → List ℕ
starts_from place [] = place ∷ []
starts_from place (size ∷ sizes) = place ∷ starts_from (place + size) sizes

-- fitting room sizes: how many of the lists of these sizes, from the first one on, have room one after another
unfoldable pub fitting : ℕ → List ℕ → ℕ
fitting room [] = 0
fitting room (size ∷ sizes) = if nat_le size room then suc (fitting (room - size) sizes) else 0

-- lists_code outcomes room: the number of the first error, or 0; or 14 where not all the lists have room
abbrev pub lists_code : List (Result ℕ H3Error) → ℕ → ℕ
lists_code outcomes room =
    if nat_le (length outcomes) (fitting room (sizes_of outcomes)) then first_code outcomes else 14

-- lists_place outcomes room: the place of the first error, or how many outcomes there are; or the place of the first
-- list that has no room
abbrev pub lists_place : List (Result ℕ H3Error) → ℕ → ℕ
lists_place outcomes room =
    if nat_le (length outcomes) (fitting room (sizes_of outcomes)) then first_place outcomes
    else fitting room (sizes_of outcomes)

-- ---- the places where they begin, which C's `int64_t` holds

-- greatest_place: the greatest number that an `int64_t` holds
abbrev pub greatest_place : ℕ
greatest_place = 2 ^ 63 - 1

-- starts_code outcomes room: 14 where there is no room for a place more than there are outcomes; else `lists_code`
abbrev pub starts_code : List (Result ℕ H3Error) → ℕ → ℕ
starts_code outcomes room = if nat_lt (length outcomes) room then lists_code outcomes greatest_place else 14

-- starts_over outcomes old: the places where the lists begin, and where the last one ends, up to the greatest place,
-- laid over what was there; or what was there, where there is too little room
abbrev pub starts_over : List (Result ℕ H3Error) → List ℕ → List ℕ
starts_over outcomes old =
    if nat_lt (length outcomes) (length old)
    then laid_over (take (suc (fitting greatest_place (sizes_of outcomes))) (starts_from 0 (sizes_of outcomes))) old
    else old

-- starts_place outcomes room old: `lists_place`, or what was there, where there is too little room
abbrev pub starts_place : List (Result ℕ H3Error) → ℕ → ℕ → ℕ
starts_place outcomes room old = if nat_lt (length outcomes) room then lists_place outcomes greatest_place else old

-- ---- the children of the cells of a column; a number that is no resolution is refused before any index is asked

-- child_sizes res cells: how many children each index has at a resolution, or its error
abbrev pub child_sizes : ℤ → List ℕ → List (Result ℕ H3Error)
child_sizes res cells = map (λ h. cell_to_children_size h res) cells

-- all_children res cells: the children of each index at a resolution, one index's after another's; none of one that is
-- refused
abbrev pub all_children : ℤ → List ℕ → List Address
all_children res cells = flat_map (λ h. result_unwrap_or (cell_to_children h res) []) cells

-- StandAtStarts res cells: in the list of all children those of each index are from the place where they begin up to
-- the next one
abbrev pub StandAtStarts : ℤ → List ℕ → Type 0
StandAtStarts res cells = (i : ℕ) → i < length cells
    → slice_range (all_children res cells) (slice_index (starts_from 0 (sizes_of (child_sizes res cells))) i)
    (slice_index (starts_from 0 (sizes_of (child_sizes res cells))) (i + 1))
    ≡ result_unwrap_or (cell_to_children (slice_index cells i) res) []

-- children_starts_code res cells room: `starts_code` of the children, or 4 where the number is no resolution
abbrev pub children_starts_code : ℤ → List ℕ → ℕ → ℕ
children_starts_code res cells room =
    if_resolution res (starts_code (child_sizes res cells) room) (error_number ResDomain)

-- children_starts_over res cells old: `starts_over` of the children, or what was there, where the number is no
-- resolution
abbrev pub children_starts_over : ℤ → List ℕ → List ℕ → List ℕ
children_starts_over res cells old = if_resolution res (starts_over (child_sizes res cells) old) old

-- children_starts_place res cells room old: `starts_place` of the children, or what was there, where the number is no
-- resolution
abbrev pub children_starts_place : ℤ → List ℕ → ℕ → ℕ → ℕ
children_starts_place res cells room old = if_resolution res (starts_place (child_sizes res cells) room old) old

-- children_code res cells room: the number of the first error, or 0; or 14 where there is too little room for all
-- children; or 4 where the number is no resolution
abbrev pub children_code : ℤ → List ℕ → ℕ → ℕ
children_code res cells room = if_resolution res (lists_code (child_sizes res cells) room) (error_number ResDomain)

-- children_over res cells old: the children's indexes laid over what was there; or what was there, where the number is
-- no resolution
abbrev pub children_over : ℤ → List ℕ → List ℕ → List ℕ
children_over res cells old = if_resolution res (laid_over (indexes (all_children res cells)) old) old

-- children_place res cells room old: the place of the first error, or how many indexes there are; or the place of the
-- first one whose children do not all have room; or what was there, where the number is no resolution
abbrev pub children_place : ℤ → List ℕ → ℕ → ℕ → ℕ
children_place res cells room old = if_resolution res (lists_place (child_sizes res cells) room) old
