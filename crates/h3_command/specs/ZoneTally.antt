-- Zones with their places, and the rows of zones in an order. Private contracts and proofs alone cite this file.
use Rattle.std.specs.Prelude.{ℕ, ◌+◌, List, [], ◌∷◌, ◌++◌, map, take}
use Rattle.h3_index.specs.Cell.{Address, number_of}
use Rattle.h3_index.specs.Text.{text_of}
use Rattle.h3_command.specs.AreaSums.{Amount}
use Rattle.h3_command.specs.SumTables.{SumRow}
use Rattle.h3_command.specs.ZoneSums.{outside_sum, zone_sum}

-- each zone with its place, counted from n on
abbrev pub placed : ℕ → List Address → List (Address × ℕ)
placed n [] = []
placed n (z ∷ zones) = (z, n) ∷ placed (n + 1) zones

-- the texts of zones
abbrev pub zone_texts : List Address → List (List ℕ)
zone_texts zones = map (λ z. text_of (number_of z)) zones

-- the texts in blocks of bytes, each in the first so many of its block
abbrev pub texts_in : List (List ℕ × ℕ) → List (List ℕ)
texts_in blocks = map (λ b. take b.1 b.0) blocks

-- the rows of zones in this order, and then that of none
abbrev pub sums_of_zones : List Address → List Amount → List SumRow
sums_of_zones zones amounts = map (zone_sum amounts) zones ++ outside_sum zones amounts ∷ []
