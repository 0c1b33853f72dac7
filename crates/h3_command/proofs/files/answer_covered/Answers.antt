use Rattle.std.proofs.Common.{codes, subst}
use Rattle.std.proofs.lemmas.List.Sorted.{IsPermutation-sym}
use Rattle.h3_set.specs.Compacted.{compacted}
use Rattle.h3_lines.specs.Reads.{source_use}
use Rattle.h3_lines.specs.Write.{sink_use}
use Rattle.h3_command.specs.Rows.{rows_form}
use Rattle.h3_command.specs.Run.{EndsLines}
use Rattle.h3_command.proofs.Combined.{covered_alike}
use Rattle.h3_command.proofs.files.answer_covered.Goals as goal

pub returns : goal.returns
returns g c =
    let form = rows_form c.args.rows.now (codes "isCovered") in
    let input = source_use g.R.Source.left g.R.Source.has_failed c.args.input.now c.answer_listed.new.input in
    let out = sink_use g.W.Sink.taken g.W.Sink.has_failed c.args.out.now c.answer_listed.new.out in
    let region = c.of-region.result in
    let listed = compacted c.args.cells.now in
    subst (λ answer. EndsLines form answer input c.answer_listed.result out)
    (covered_alike region listed (λ x. c.zones_are_lawful.ensures.in_any_order.covered region listed x
    (IsPermutation-sym listed region c.of-region.ensures.list))) c.answer_listed.ensures
