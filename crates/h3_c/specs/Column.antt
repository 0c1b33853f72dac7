-- What a column holds, and what is returned with it, for the outcomes of a function at each of its indexes.
use Rattle.std.specs.Prelude.{ℕ, ℤ, suc, List, [], ◌∷◌, map, length, Result, Ok, Err, nat_le, if◌then◌else◌}
use Rattle.std.specs.Result.{result_unwrap_or}
use Rattle.std.specs.Option.{option_map_or}
use Rattle.h3_index.specs.Count.{resolution_of}
use Rattle.h3_index.specs.Error.{error_number}
use Rattle.h3_index.specs.declared.error.H3Error.{H3Error}
use Rattle.h3_index.specs.declared.error.H3Error.TheVariants.{ResDomain}
use Rattle.h3_c.specs.Lists.{laid_over}

-- first_code outcomes: the number of the first error, or 0
unfoldable pub first_code : {A : Type 0} → List (Result A H3Error) → ℕ
first_code [] = 0
first_code (Ok value ∷ rest) = first_code rest
first_code (Err e ∷ rest) = error_number e

-- first_place outcomes: the place of the first error, or how many outcomes there are
unfoldable pub first_place : {A : Type 0} → List (Result A H3Error) → ℕ
first_place [] = 0
first_place (Ok value ∷ rest) = suc (first_place rest)
first_place (Err e ∷ rest) = 0

-- column_code outcomes room: `first_code`, or 14 where there is too little room
abbrev pub column_code : {A : Type 0} → List (Result A H3Error) → ℕ → ℕ
column_code outcomes room = if nat_le (length outcomes) room then first_code outcomes else 14

-- column_over missing outcomes old: the values, with `missing` in the place of errors, laid over what was there; or
-- what was there, where there is too little room
abbrev pub column_over : {A : Type 0} → A → List (Result A H3Error) → List A → List A
column_over missing outcomes old =
    if nat_le (length outcomes) (length old) then laid_over (map (λ r. result_unwrap_or r missing) outcomes) old
    else old

-- place_over outcomes room old: `first_place`, or what was there, where there is too little room
abbrev pub place_over : {A : Type 0} → List (Result A H3Error) → ℕ → ℕ → ℕ
place_over outcomes room old = if nat_le (length outcomes) room then first_place outcomes else old

-- ---- over a resolution, which is judged first: where a number is none, nothing is asked of any index

-- if_resolution res comes stands: what comes of a resolution, or what stands where the number is none
abbrev pub if_resolution : {A : Type 0} → ℤ → A → A → A
if_resolution res comes stands = option_map_or (λ r. comes) (resolution_of res) stands

-- column_code_at res outcomes room: `column_code`, or 4 where the number is no resolution
abbrev pub column_code_at : {A : Type 0} → ℤ → List (Result A H3Error) → ℕ → ℕ
column_code_at res outcomes room = if_resolution res (column_code outcomes room) (error_number ResDomain)

-- column_over_at res missing outcomes old: `column_over`, or what was there, where the number is no resolution
abbrev pub column_over_at : {A : Type 0} → ℤ → A → List (Result A H3Error) → List A → List A
column_over_at res missing outcomes old = if_resolution res (column_over missing outcomes old) old

-- place_over_at res outcomes room old: `place_over`, or what was there, where the number is no resolution
abbrev pub place_over_at : {A : Type 0} → ℤ → List (Result A H3Error) → ℕ → ℕ → ℕ
place_over_at res outcomes room old = if_resolution res (place_over outcomes room old) old
