-- Lists in C's memory.
use Rattle.std.specs.Prelude.{ℕ, nat_le, List, [], ◌∷◌, map, length, Result, Ok, Err, if◌then◌else◌}
use Rattle.h3_index.specs.Cell.{Address, number_of}
use Rattle.h3_index.specs.Error.{error_number}
use Rattle.h3_index.specs.declared.error.H3Error.{H3Error}
use Rattle.h3_functions.specs.Inspection.{for_value}

-- laid_over xs old: the items of a list over those at the beginning of another, as far as that goes
unfoldable pub laid_over : {A : Type 0} → List A → List A → List A
laid_over [] old = old
laid_over (x ∷ xs) [] = []
laid_over (x ∷ xs) (y ∷ old) = x ∷ laid_over xs old

-- indexes cells: the numbers of the cells
abbrev pub indexes : List Address → List ℕ
indexes cells = map (λ c. number_of c) cells

-- list_code outcome room: 0, or 14 where there is too little room for the list, or the error's number
abbrev pub list_code : Result (List Address) H3Error → ℕ → ℕ
list_code (Ok cells) room = if nat_le (length cells) room then 0 else 14
list_code (Err e) room = error_number e

-- list_over outcome old: the list's indexes laid over what was there; or what was there, where there is an error
abbrev pub list_over : Result (List Address) H3Error → List ℕ → List ℕ
list_over (Ok cells) old = laid_over (indexes cells) old
list_over (Err e) old = old

-- count_of outcome: how many cells the list has, or the error
abbrev pub count_of : Result (List Address) H3Error → Result ℕ H3Error
count_of cells = for_value (λ cs. Ok (length cs)) cells
