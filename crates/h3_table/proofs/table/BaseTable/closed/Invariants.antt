use Rattle.std.proofs.Common.{◌≡◌, ◌<◌, ◌%◌, ℕ, [], ◌∷◌, length, get_or}
use Rattle.h3_table.specs.Links.{no_link, pair_of}
use Rattle.h3_table.proofs.table.BaseTable.closed.Given as goal

abbrev pub invariant-loop-i : goal.invariant-loop-i
invariant-loop-i l =
    (length l.links ≡ 732)
    × ((k : ℕ) → k < l.i
    → pair_of (get_or l.links k no_link) ≡ (get_or (4 ∷ 14 ∷ 24 ∷ 38 ∷ 49 ∷ 58 ∷ []) (k % 6) 0, 0))
