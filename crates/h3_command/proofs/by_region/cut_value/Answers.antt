use Rattle.std.proofs.Common.{◌∙◌, ◌++◌, ap, sym}
use Rattle.std.proofs.lemmas.Result.{on_ok_weaker}
use Rattle.h3_set.specs.Compacted.{compacted}
use Rattle.h3_command.specs.Combination.{combined}
use Rattle.h3_command.proofs.Combined.{left_compacts, shared_compacts}
use Rattle.h3_command.proofs.by_region.cut_value.Goals as goal

pub returns-in-Shared-clause-ok : goal.returns-in-Shared-clause-ok
returns-in-Shared-clause-ok c =
    on_ok_weaker c.put_ascending.result (λ put. (
      compacted c.cells.result.now,
      put,
      λ listed region.
          shared_compacts c.coverages_decide_combinations.ensures.intersections c.args.cells.now listed c.of-own.result
          c.args.region.now
          c.intersect-shared.result
          c.cells.result.now c.of-own.ensures.valid region.valid c.intersect-shared.ensures.region.valid
          (c.of-own.ensures.covers 15 c.of-own.ensures.fine) region.covers (c.intersect-shared.ensures.covers 15)
          c.cells.ensures.is
          ∙ ap (λ kind. combined kind listed c.args.cells.now) (sym c.in-Shared.is),
    )) c.put_ascending.ensures.ok

pub returns-in_ok-left-in-Left-clause-ok : goal.returns-in_ok-left-in-Left-clause-ok
returns-in_ok-left-in-Left-clause-ok c =
    let left = c.in_ok-left-in-Left in
    on_ok_weaker c.put_ascending-in-Left.result (λ put. (
      compacted left.left.items,
      put ∙ ap (λ l. c.args.made.now.items ++ compacted l) c.deref.ensures.value,
      λ listed region.
          left_compacts c.coverages_decide_combinations.ensures.differences c.args.cells.now listed c.of-own.result
          c.args.region.now
          left.left.items
          c.of-own.ensures.valid region.valid left.ensures.region.valid
          (c.of-own.ensures.covers 15 c.of-own.ensures.fine) region.covers left.ensures.covers
          ∙ ap (λ kind. combined kind listed c.args.cells.now) (sym c.in-Left.is),
    )) c.put_ascending-in-Left.ensures.ok
