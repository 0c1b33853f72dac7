use Rattle.std.proofs.Common.{◌≡◌, ◌∷◌, ◌++◌, ◌+◌, [], take, slice_set, subst, sym, arith}
use Rattle.std.proofs.lemmas.List.{take_more_set}
use Rattle.h3_lines.specs.Splitting.{BeginsLines}
use Rattle.h3_lines.proofs.PlainRows.{begins_then}
use Rattle.h3_lines.proofs.plain.plain_lines.Goals as goal

pub loop-count-preserved : goal.loop-count-preserved
loop-count-preserved c =
    let n = c.loop-count.count in
    let kept : take (n + 1) (slice_set c.loop-count.indexes n c.in-Some.index)
    ≡ take n c.loop-count.indexes ++ c.in-Some.index ∷ [] =
    take_more_set c.loop-count.indexes n c.in-Some.index (omega (arith, c.loop-count-test.true)) in
    subst (λ is. BeginsLines c.args.bytes.now is c.in-Some.after.now) (sym kept) (begins_then c.args.bytes.now (take n
    c.loop-count.indexes) c.loop-count.left.now c.in-Some.after.now c.in-Some.index
    c.loop-count.invariant c.in-Some.ensures)
