-- What H3's functions about whole resolutions return.
use Rattle.std.specs.Prelude.{ℕ, ℤ, ◌+◌, ◌*◌, ◌^◌, List, Result, Ok, Err}
use Rattle.std.specs.Option.{option_map_or}
use Rattle.h3_index.specs.Cell.{Address}
use Rattle.h3_index.specs.Count.{cells_of, pentagons, resolution_of}
use Rattle.h3_index.specs.declared.error.H3Error.{H3Error}
use Rattle.h3_index.specs.declared.error.H3Error.TheVariants.{ResDomain}

-- what is returned for a resolution, or an error where the number is none
abbrev pub for_resolution : {A : Type 0} → (ℕ → A) → ℤ → Result A H3Error
for_resolution f res = option_map_or (λ r. Ok (f r)) (resolution_of res) (Err ResDomain)

-- get_num_cells r: how many cells a resolution has, or the error
abbrev pub get_num_cells : ℤ → Result ℕ H3Error
get_num_cells res = for_resolution (λ r. 2 + 120 * 7 ^ r) res

-- get_res0_cells: the cells of resolution 0
abbrev pub get_res0_cells : List Address
get_res0_cells = cells_of 0

-- get_pentagons r: the pentagons of a resolution, or the error
abbrev pub get_pentagons : ℤ → Result (List Address) H3Error
get_pentagons res = for_resolution pentagons res
