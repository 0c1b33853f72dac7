use Rattle.std.proofs.Common.{◌∙◌, arith}
use Rattle.h3_c.specs.Zones.{zones_in}
use Rattle.h3_c.proofs.ZoneLaws.{adds_up, counts_kept, counts_written, none_there, others_kept, others_written, there}
use Rattle.h3_c.proofs.zones.count_judged.Goals as goal

pub returns-in-Ok-clause-counts : goal.returns-in-Ok-clause-counts
returns-in-Ok-clause-counts c =
    let (cells, read) = there c.args.cells.now (c.judge-code.ensures.cells c.if-code-eq0.true) in
    let are = c.in-Ok.ensures.counted cells read in
    rw (c.requires) (counts_written (zones_in c.args.zones.now) c.args.cells.now c.args.counts.now
    (omega (arith, c.if-counts-size.false, c.requires)) c.count_all.new.counts c.in-Ok.outside cells read are)

pub returns-in-Ok-clause-others : goal.returns-in-Ok-clause-others
returns-in-Ok-clause-others c =
    let (cells, read) = there c.args.cells.now (c.judge-code.ensures.cells c.if-code-eq0.true) in
    let are = c.in-Ok.ensures.counted cells read in
    others_written (zones_in c.args.zones.now) c.args.cells.now c.args.counts.now (omega (
      arith,
      c.if-counts-size.false,
      c.requires,
    )) c.count_all.new.counts c.in-Ok.outside cells read are c.args.others.now

pub returns-in-Ok-clause-all : goal.returns-in-Ok-clause-all
returns-in-Ok-clause-all c = λ e.
    let (cells, read) = there c.args.cells.now (c.judge-code.ensures.cells c.if-code-eq0.true) in
    let are = c.in-Ok.ensures.counted cells read in
    rw (c.requires) (adds_up (zones_in c.args.zones.now) c.args.cells.now c.args.counts.now
    (omega (arith, c.if-counts-size.false, c.requires)) c.count_all.new.counts c.in-Ok.outside cells read are)

pub returns-else-code-eq0-clause-counts : goal.returns-else-code-eq0-clause-counts
returns-else-code-eq0-clause-counts c =
    counts_kept (zones_in c.args.zones.now) c.args.cells.now c.args.counts.now
    (omega (arith, c.if-counts-size.false, c.requires))
    (none_there c.args.cells.now (λ e. c.if-code-eq0.false (c.judge-code.ensures.code ∙ e)))

pub returns-else-code-eq0-clause-others : goal.returns-else-code-eq0-clause-others
returns-else-code-eq0-clause-others c =
    others_kept (zones_in c.args.zones.now) c.args.cells.now c.args.counts.now
    (omega (arith, c.if-counts-size.false, c.requires))
    (none_there c.args.cells.now (λ e. c.if-code-eq0.false (c.judge-code.ensures.code ∙ e))) c.args.others.now
