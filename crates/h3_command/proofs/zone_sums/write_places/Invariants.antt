use Rattle.std.proofs.Common.{ℕ, ◌≡◌, ◌<◌, length, get_or}
use Rattle.h3_index.specs.Cell.{Address}
use Rattle.h3_command.proofs.zone_sums.write_places.Given as goal

abbrev pub invariant-loop-i : goal.invariant-loop-i
invariant-loop-i l =
    (length l.pairs ≡ length l.zones)
    × ((k : ℕ) (d : Address × ℕ) (e : Address) → k < l.i → get_or l.pairs k d ≡ (get_or l.zones k e, k))
