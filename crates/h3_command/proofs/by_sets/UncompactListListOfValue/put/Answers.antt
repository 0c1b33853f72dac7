use Rattle.std.proofs.Common.{◌≡◌, ◌++◌, rules, take, unsigned_abs}
use Rattle.std.proofs.lemmas.Iterator.Consumers.{YieldsList-from_first}
use Rattle.h3_lines.specs.Answering.{FailsPush, Moves}
use Rattle.h3_lines.specs.Write.{sink_use}
use Rattle.h3_set.specs.Iter.{cells_left}
use Rattle.h3_set.specs.Uncompaction.{uncompacted}
use Rattle.h3_command.specs.By.{value_lines}
use Rattle.h3_command.proofs.ValueRows.{given_err, given_ok}
use Rattle.h3_command.proofs.by_sets.UncompactListListOfValue.put.Goals as goal

pub returns-clause-ok : goal.returns-clause-ok
returns-clause-ok g c =
    let held = take c.args.end c.args.block.now in
    let all = uncompacted c.args.cells.now (unsigned_abs c.args.self.now.res) in
    let same : cells_left c.in-Ok.all ≡ all = search (rules, c.in-Ok.ensures.list) in
    given_ok _ (λ list last. Moves g.W.Sink.taken g.W.Sink.has_failed
    (held ++ value_lines c.args.separator c.args.value.now list)
    (take last c.put_rows.new.block) c.args.out.now c.put_rows.new.out) c.put_rows.result all c.put_rows.ensures.ok
    (YieldsList-from_first (λ x. x) cells_left all same).runs

pub returns-clause-err : goal.returns-clause-err
returns-clause-err g c =
    let held = take c.args.end c.args.block.now in
    let all = uncompacted c.args.cells.now (unsigned_abs c.args.self.now.res) in
    let same : cells_left c.in-Ok.all ≡ all = search (rules, c.in-Ok.ensures.list) in
    given_err _ (λ list. FailsPush (held ++ value_lines c.args.separator c.args.value.now list)
    (sink_use g.W.Sink.taken g.W.Sink.has_failed c.args.out.now c.put_rows.new.out)) c.put_rows.result all
    c.put_rows.ensures.err
    (YieldsList-from_first (λ x. x) cells_left all same).runs
