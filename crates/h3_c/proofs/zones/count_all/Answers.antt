use Rattle.std.proofs.Common.{replicate, sym, ap, ◌∙◌, arith, rules}
use Rattle.h3_c.specs.Zones.{zones_in}
use Rattle.h3_c.proofs.ZoneLaws.{begun, counted-all, counted-next, counted-size, none_missing}
use Rattle.h3_c.proofs.zones.count_all.Goals as goal

pub loop-i-init : goal.loop-i-init
loop-i-init c =
    begun c.zones_are_lawful.ensures.nothing (zones_in c.args.zones.now) c.args.indexes.now c.clear.new.counts
    (c.clear.ensures ∙ ap (λ n. replicate n 0) c.requires.size)

pub count_next-others-requires-clause-few : goal.count_next-others-requires-clause-few
count_next-others-requires-clause-few c =
    let size =
    counted-size (zones_in c.args.zones.now) c.args.indexes.now c.loop-i.counts c.loop-i.others c.loop-i.i
    c.loop-i.invariant c.loop-i.auto.i-end in
    search (rules, size, c.loop-i-test.true)

pub returns-in-Err-clause-all : goal.returns-in-Err-clause-all
returns-in-Err-clause-all c =
    none_missing c.args.indexes.now c.loop-i.i c.requires.cells c.loop-i-test.true (sym c.in-Err.ensures.read)

pub loop-i-preserved : goal.loop-i-preserved
loop-i-preserved c =
    counted-next (zones_in c.args.zones.now) c.args.indexes.now c.loop-i.counts c.loop-i.others c.loop-i.i
    c.loop-i.invariant c.in-Ok.cell c.count_next-others.new.counts c.count_next-others.result c.loop-i-test.true
    (sym c.in-Ok.ensures.read) c.count_next-others.ensures

pub returns-clause-counted : goal.returns-clause-counted
returns-clause-counted c = λ cells read.
    counted-all
    (zones_in c.args.zones.now) c.args.indexes.now c.loop-i.counts c.loop-i.others c.loop-i.i c.loop-i.invariant
    (omega (arith, c.loop-i-test.false)) cells read
