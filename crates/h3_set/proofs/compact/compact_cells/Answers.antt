use Rattle.std.proofs.Common.{◌≡◌}
use Rattle.h3_set.specs.Compacted.{compacted, IsCompacted}
use Rattle.h3_set.specs.Coverage.{finest, IsCovered}
use Rattle.h3_set.proofs.PermutedLaws.{in_front, reordered}
use Rattle.h3_set.proofs.compact.compact_cells.Goals as goal

pub returns-clause-compacted : goal.returns-clause-compacted
returns-clause-compacted c =
    in_front c.args.cells.now c.copy_from_slice.new.self c.compact_in_place.new.cells _ _
    c.copy_from_slice.ensures.after (λ l first. IsCompacted (IsCovered l (finest l)) (finest l) first)
    c.compact_in_place.result c.compact_in_place.auto.cells c.compact_in_place.ensures.fewer
    c.compact_in_place.ensures.compacted

pub returns-clause-is : goal.returns-clause-is
returns-clause-is c =
    in_front c.args.cells.now c.copy_from_slice.new.self c.compact_in_place.new.cells _ _
    c.copy_from_slice.ensures.after (λ l first. first ≡ compacted l) c.compact_in_place.result
    c.compact_in_place.auto.cells c.compact_in_place.ensures.fewer c.compact_in_place.ensures.is

pub returns-clause-overlapping : goal.returns-clause-overlapping
returns-clause-overlapping c = λ e.
    reordered c.args.cells.now c.copy_from_slice.new.self c.compact_in_place.new.cells _ _
    c.copy_from_slice.ensures.after (c.compact_in_place.ensures.overlapping e)
