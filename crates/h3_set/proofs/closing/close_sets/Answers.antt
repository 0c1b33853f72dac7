use Rattle.std.proofs.Common.{◌≡◌, ◌-◌, ◌≤◌, ◌++◌, length, take, drop, arith, sym, subst, ◌∙◌}
use Rattle.std.proofs.lemmas.List.{length-append, length-take-le, take-append-le}
use Rattle.h3_set.specs.Closing.{HasNoSet, ReducesTo}
use Rattle.h3_set.proofs.EndLaws.{leads_on, leads_rising}
use Rattle.h3_set.proofs.closing.close_sets.Goals as goal

pub close_once-len-requires-clause-rising : goal.close_once-len-requires-clause-rising
close_once-len-requires-clause-rising c =
    leads_rising c.args.cells.now (take c.loop-len.len c.loop-len.cells) c.loop-len.invariant.leads c.requires.rising

pub loop-len-preserved : goal.loop-len-preserved
loop-len-preserved c =
    let cells = c.loop-len.cells in
    let S = c.close_once-len.new.cells in
    let m = c.close_once-len.result in
    let rest = drop c.loop-len.len c.loop-len.cells in
    let size : length (take c.loop-len.len c.loop-len.cells) ≡ c.loop-len.len =
    length-take-le c.loop-len.len c.loop-len.cells c.loop-len.invariant.within in
    let same : length S ≡ length (take c.loop-len.len c.loop-len.cells) = c.close_once-len.auto.cells in
    let done = c.close_once-len.ensures in
    let fits : c.close_once-len.result ≤ length S = omega (arith, done.within, same) in
    let front : take m (S ++ rest) ≡ take m S = take-append-le m S rest fits in
    let front_less : take (m - 1) (S ++ rest) ≡ take (m - 1) S = take-append-le (m - 1) S rest (omega (arith, fits)) in
    record {
      some = done.some;
      within = omega (arith, fits, length-append S rest);
      fewer = omega (arith, done.within, size);
      leads =
          subst (ReducesTo c.args.cells.now) (sym front) (leads_on c.args.cells.now
          (take c.loop-len.len c.loop-len.cells) (take m S) c.loop-len.invariant.leads done.leads);
      closed = subst HasNoSet (sym front_less) done.closed;
      done = λ e. subst HasNoSet (sym front) (done.none (e ∙ sym size));
    }

pub returns-clause-within : goal.returns-clause-within
returns-clause-within c = omega (arith, c.loop-len.invariant.within)

pub returns-clause-leads : goal.returns-clause-leads
returns-clause-leads c = c.loop-len.invariant.leads

pub returns-clause-closed : goal.returns-clause-closed
returns-clause-closed c = c.loop-len.invariant.done (omega (arith, c.loop-len.invariant.fewer, c.loop-len-test.false))
