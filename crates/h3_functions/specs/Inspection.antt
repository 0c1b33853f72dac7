-- What H3's index inspection functions return for an index.
use Rattle.std.specs.Prelude.{ℕ, Bool, is_some, ok_or, Result, Ok, Err}
use Rattle.h3_index.specs.Cell.{Address, is_class_iii, is_pentagon as is_pentagon_cell, resolution}
use Rattle.h3_index.specs.CellNumber.{cell_in}
use Rattle.h3_index.specs.declared.error.H3Error.{H3Error}
use Rattle.h3_index.specs.declared.error.H3Error.TheVariants.{CellInvalid}

-- cell_from index: the cell with an index, or `CellInvalid` where no cell has it
abbrev pub cell_from : ℕ → Result Address H3Error
cell_from index = ok_or (cell_in index) CellInvalid

-- what is returned for a value, or the error in its place
abbrev pub for_value : {A B : Type 0} → (A → Result B H3Error) → Result A H3Error → Result B H3Error
for_value f (Ok value) = f value
for_value f (Err e) = Err e

-- is_valid_cell index: whether a cell has the index
abbrev pub is_valid_cell : ℕ → Bool
is_valid_cell index = is_some (cell_in index)

-- get_resolution index: the cell's resolution, or the error
abbrev pub get_resolution : ℕ → Result ℕ H3Error
get_resolution index = for_value (λ c. Ok (resolution c)) (cell_from index)

-- get_base_cell_number index: its base cell, or the error
abbrev pub get_base_cell_number : ℕ → Result ℕ H3Error
get_base_cell_number index = for_value (λ c. Ok c.base) (cell_from index)

-- is_pentagon index: whether it is a pentagon, or the error
abbrev pub is_pentagon : ℕ → Result Bool H3Error
is_pentagon index = for_value (λ c. Ok (is_pentagon_cell c)) (cell_from index)

-- is_res_class_iii index: whether its resolution is odd, or the error
abbrev pub is_res_class_iii : ℕ → Result Bool H3Error
is_res_class_iii index = for_value (λ c. Ok (is_class_iii c)) (cell_from index)
