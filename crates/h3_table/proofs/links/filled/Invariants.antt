use Rattle.std.proofs.Common.{◌≡◌, ◌<◌, ℕ, length, get_or, None}
use Rattle.std.specs.Prelude.{unwrap_or}
use Rattle.h3_table.specs.Links.{AreLinks, no_link, pair_of}
use Rattle.h3_table.proofs.links.filled.Given as goal

abbrev pub invariant-loop-i : goal.invariant-loop-i
invariant-loop-i l =
    (length l.links ≡ 732) × AreLinks l.links
    × ((k : ℕ) → k < l.i → pair_of (get_or l.links k no_link) ≡ unwrap_or (get_or l.slots k None) (0, 0))
