-- The definitions of lists one after another at worked values, by computation.
use Rattle.std.specs.Prelude.{◌≡◌, ◌-◌, ◌^◌, ℕ, pos, List, [], ◌∷◌, length, Result, Ok, Err, refl}
use Rattle.h3_index.specs.Cell.{number_of}
use Rattle.h3_index.specs.CellNumber.{address_in, cell_in}
use Rattle.h3_index.specs.Count.{number_below}
use Rattle.h3_index.specs.Descendants.{descendants}
use Rattle.h3_index.specs.Paths.{paths}
use Rattle.h3_index.specs.declared.error.H3Error.{H3Error}
use Rattle.h3_index.specs.declared.error.H3Error.TheVariants.{CellInvalid, ResDomain}
use Rattle.h3_c.specs.Column.{first_code, first_place}
use Rattle.h3_c.specs.Lists.{laid_over}
use Rattle.h3_c.specs.Starts.{all_children, child_sizes, fitting, lists_code, lists_place, starts_code, starts_from, starts_over, starts_place}

-- the sizes of a hexagon, of what is no cell, of a pentagon and of a cell that is finer, at the next resolution
abbrev outcomes : List (Result ℕ H3Error)
outcomes = Ok 7 ∷ Err CellInvalid ∷ Ok 6 ∷ Err ResDomain ∷ []

starts : starts_over outcomes (9 ∷ 9 ∷ 9 ∷ 9 ∷ 9 ∷ 9 ∷ []) ≡ 0 ∷ 7 ∷ 7 ∷ 13 ∷ 13 ∷ 9 ∷ []
unfolding fitting laid_over starts_from
starts = refl

starts_of_none : starts_over [] (9 ∷ 9 ∷ []) ≡ 0 ∷ 9 ∷ []
unfolding fitting laid_over starts_from
starts_of_none = refl

first_refused : starts_place outcomes 5 9 ≡ 1
unfolding fitting first_place
first_refused = refl

first_error : starts_code outcomes 5 ≡ 5
unfolding fitting first_code
first_error = refl

no_room_for_starts : starts_code outcomes 4 ≡ 14
no_room_for_starts = refl

-- room for the children of the first three, and for one child less
room_for_all : lists_code outcomes 13 ≡ 5
unfolding fitting first_code
room_for_all = refl

no_room : lists_code outcomes 12 ≡ 14
unfolding fitting
no_room = refl

place_of_no_room : lists_place outcomes 12 ≡ 2
unfolding fitting
place_of_no_room = refl

-- above the greatest place
past_all_places : starts_place (Ok (2 ^ 63 - 1) ∷ Ok 0 ∷ Ok 1 ∷ []) 4 9 ≡ 2
unfolding fitting
past_all_places = refl

starts_up_to_it : starts_over (Ok (2 ^ 63 - 1) ∷ Ok 0 ∷ Ok 1 ∷ []) (9 ∷ 9 ∷ 9 ∷ 9 ∷ [])
    ≡ 0 ∷ (2 ^ 63 - 1) ∷ (2 ^ 63 - 1) ∷ 9 ∷ []
unfolding fitting laid_over starts_from
starts_up_to_it = refl

-- a pentagon, what is no cell, and a finer cell; and a pentagon, what is no cell, and a hexagon
sizes : child_sizes (pos 1) (0x8009fffffffffff ∷ 5 ∷ 0x85283473fffffff ∷ [])
    ≡ Ok 6 ∷ Err CellInvalid ∷ Err ResDomain ∷ []
unfolding cell_in address_in number_of number_below descendants paths
sizes = refl

children : length (all_children (pos 1) (0x8009fffffffffff ∷ 5 ∷ 0x8029fffffffffff ∷ [])) ≡ 13
unfolding cell_in address_in number_of number_below descendants paths
children = refl
