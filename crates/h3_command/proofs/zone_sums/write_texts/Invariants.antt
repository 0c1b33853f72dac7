use Rattle.std.proofs.Common.{ℕ, List, ◌≡◌, ◌<◌, ◌≤◌, length, get_or, take}
use Rattle.h3_index.specs.Cell.{Address, number_of}
use Rattle.h3_index.specs.Text.{text_of}
use Rattle.h3_command.proofs.zone_sums.write_texts.Given as goal

abbrev pub invariant-loop-i : goal.invariant-loop-i
invariant-loop-i l =
    (length l.blocks ≡ length l.zones)
    × ((k : ℕ) (d : List ℕ × ℕ) (e : Address) → k < l.i
    → take (get_or l.blocks k d).1 (get_or l.blocks k d).0 ≡ text_of (number_of (get_or l.zones k e)))
    × ((k : ℕ) (d : List ℕ × ℕ) → k < l.i → (get_or l.blocks k d).1 ≤ 16)
