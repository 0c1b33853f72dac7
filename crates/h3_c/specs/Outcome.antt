-- How the outcome of a call reaches C: a code, and a value at a place where the code is 0.
use Rattle.std.specs.Prelude.{ℕ, ℤ, pos, Bool, true, false, Result, Ok, Err}
use Rattle.h3_index.specs.Cell.{Address, number_of}
use Rattle.h3_index.specs.Error.{error_number}
use Rattle.h3_index.specs.declared.error.H3Error.{H3Error}
use Rattle.h3_functions.specs.Inspection.{for_value}

-- code_of outcome: 0, or the error's number
abbrev pub code_of : {A : Type 0} → Result A H3Error → ℕ
code_of (Ok value) = 0
code_of (Err e) = error_number e

-- index_of outcome: the cell's index, or the error
abbrev pub index_of : Result Address H3Error → Result ℕ H3Error
index_of cell = for_value (λ c. Ok (number_of c)) cell

-- int_of outcome: the number as C's `int`, or the error
abbrev pub int_of : Result ℕ H3Error → Result ℤ H3Error
int_of number = for_value (λ n. Ok (pos n)) number

-- truth b: 1 or 0
abbrev pub truth : Bool → ℤ
truth true = pos 1
truth false = pos 0

-- truth_of outcome: the truth value as 1 or 0, or the error
abbrev pub truth_of : Result Bool H3Error → Result ℤ H3Error
truth_of answer = for_value (λ is. Ok (truth is)) answer
