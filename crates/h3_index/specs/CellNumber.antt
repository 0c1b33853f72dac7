-- What the fields of a number say of a cell.
use Rattle.std.specs.Prelude.{ℕ, ◌≡◌, ◌/◌, ◌%◌, ◌^◌, ◌==◌, nat_lt, List, take, Bool, ◌&&◌, not, Option, Some, None, if◌then◌else◌}
use Rattle.std.specs.List.{list_all}
use Rattle.h3_index.specs.Cell.{Address, IsCell, is_pentagon_base, leading, number_of, resolution}
use Rattle.h3_index.specs.Digits.{last_digits}

abbrev pub resolution_in : ℕ → ℕ
resolution_in m = m / 2 ^ 52 % 16

abbrev pub base_in : ℕ → ℕ
base_in m = m / 2 ^ 45 % 128

-- the fifteen digits, those above the resolution too. Private contracts and proofs alone cite it.
unfoldable pub digits_in : ℕ → List ℕ
digits_in m = last_digits 8 15 m

-- address_in m: the base cell and the digits that the fields of a number say
unfoldable pub address_in : ℕ → Address
address_in m = record { base = base_in m; digits = take (resolution_in m) (last_digits 8 15 m) }

-- IsCellNumber m: the number is that of a cell, the one that its fields say
pub record IsCellNumber (m : ℕ) : Type 0 where
  pub is : number_of (address_in m) ≡ m
  pub valid : IsCell (address_in m)

-- the test of `IsCell`
abbrev pub is_cell : Address → Bool
is_cell c =
    nat_lt c.base 122 && nat_lt (resolution c) 16 && list_all (λ d. nat_lt d 7) c.digits
    && not (is_pentagon_base c.base && leading c.digits == 1)

-- cell_in m: the cell with this number, if there is one
unfoldable pub cell_in : ℕ → Option Address
cell_in m = if is_cell (address_in m) && number_of (address_in m) == m then Some (address_in m) else None
