-- The definitions of walks one after another at worked values, by computation.
use Rattle.std.specs.Prelude.{◌≡◌, ℕ, List, [], ◌∷◌, Result, Ok, Err, refl}
use Rattle.std.specs.List.{flat_map}
use Rattle.h3_index.specs.declared.error.H3Error.{H3Error}
use Rattle.h3_index.specs.declared.error.H3Error.TheVariants.{Pentagon}
use Rattle.h3_c.specs.Disks.{whole_walks}
use Rattle.h3_c.specs.Walks.{given, items_code}

-- a walk of two items, one that is refused after an item, and one more
abbrev walks : List (List (Result ℕ H3Error))
walks = (Ok 1 ∷ Ok 2 ∷ []) ∷ (Ok 3 ∷ Err Pentagon ∷ []) ∷ (Ok 4 ∷ []) ∷ []

abbrev all : List (Result ℕ H3Error)
all = flat_map (λ items. items) walks

before_the_error : given all ≡ 1 ∷ 2 ∷ 3 ∷ []
unfolding given
before_the_error = refl

the_error : items_code all 3 ≡ 9
unfolding items_code
the_error = refl

place_of_the_error : whole_walks 3 walks ≡ 1
unfolding items_code whole_walks
place_of_the_error = refl

no_room : items_code all 2 ≡ 14
unfolding items_code
no_room = refl

place_of_no_room : whole_walks 1 walks ≡ 0
unfolding items_code whole_walks
place_of_no_room = refl
