use Rattle.std.specs.List.{AllWithin}
use Rattle.std.proofs.Common.{◌-◌, ◌<◌, ◌≤◌, length}
use Rattle.h3_tree.specs.PostOrder.{post_order_key}
use Rattle.h3_regions.specs.FirstPlaces.{slot_of}
use Rattle.h3_regions.proofs.zone_index.first_in_slot.Given as goal

abbrev pub invariant-loop-place : goal.invariant-loop-place
invariant-loop-place l =
    (l.place ≤ length l.cells) × AllWithin (λ c. slot_of l.lowest l.shift (post_order_key c) < l.slot) l.cells 0 l.place

abbrev pub decreases-loop-place : goal.decreases-loop-place
decreases-loop-place l = length l.cells - l.place
