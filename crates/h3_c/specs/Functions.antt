-- What a function of one index returns, as C sees it. Private contracts and proofs alone cite this file: the contract
-- of each function says which definition it is.
use Rattle.std.specs.Prelude.{ℕ, ℤ, Result, Err}
use Rattle.h3_index.specs.declared.error.H3Error.{H3Error}
use Rattle.h3_index.specs.declared.error.H3Error.TheVariants.{Failed}
use Rattle.h3_functions.specs.declared.outcome.Outcome.{Outcome}
use Rattle.h3_functions.specs.declared.outcome.Outcome.TheVariants.{Cell, Count, Number, Truth}
use Rattle.h3_c.specs.Outcome.{index_of, int_of, truth_of}

-- an `int`
abbrev pub int_in : Outcome → Result ℤ H3Error
int_in (Truth is) = truth_of is
int_in (Number number) = int_of number
int_in other = Err Failed

-- an index or a count
abbrev pub word_in : Outcome → Result ℕ H3Error
word_in (Count count) = count
word_in (Cell cell) = index_of cell
word_in other = Err Failed
