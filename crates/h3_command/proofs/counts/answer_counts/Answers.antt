use Rattle.std.proofs.Common.{◌≡◌, [], arith, inl, length, refl, replicate, rules, subst, sym}
use Rattle.std.proofs.lemmas.Grind.{common_steps}
use Rattle.h3_lines.specs.Reads.{source_use}
use Rattle.h3_lines.specs.declared.run_error.Fault.TheVariants.{Memory}
use Rattle.h3_lines.specs.declared.run_error.RunError.TheVariants.{Fault}
use Rattle.std.proofs.KnownBytes.{Keeps-refl}
use Rattle.std.proofs.lemmas.Result.{err_from_is_err_and}
use Rattle.h3_lines.specs.Write.{sink_use}
use Rattle.h3_regions.specs.Counting.{AreCounts}
use Rattle.h3_lines.specs.List.{itself}
use Rattle.h3_command.specs.Files.{counts_answer}
use Rattle.h3_command.specs.Rows.{list_form}
use Rattle.h3_command.proofs.Endings.{list_unread}
use Rattle.h3_command.proofs.ListedCells.{numbered_ends, numbered_unanswered}
use Rattle.h3_command.proofs.counts.answer_counts.Goals as goal

pub returns-in_err-tally : goal.returns-in_err-tally
returns-in_err-tally g c =
    let p = err_from_is_err_and c.from_residual-in_err-tally.result c.from_residual-in_err-tally.ensures.1 in
    let input = source_use g.R.Source.left g.R.Source.has_failed c.args.input.now c.take_listed.new.input in
    let out = sink_use g.W.Sink.taken g.W.Sink.has_failed c.args.out.now c.args.out.now in
    rw (p.1, p.2) (numbered_unanswered itself (list_form c.args.rows.now)
    (counts_answer c.args.zones.now) input _ out c.in_err-tally.ensures.refused (Keeps-refl _, refl))

pub returns-in_err-counts : goal.returns-in_err-counts
returns-in_err-counts g c =
    let p = err_from_is_err_and c.from_residual-in_err-counts.result c.from_residual-in_err-counts.ensures.1 in
    let out_of_memory : c.in_err-counts.field-0.0 ≡ Fault Memory = search rules in
    let input = source_use g.R.Source.left g.R.Source.has_failed c.args.input.now c.args.input.now in
    let out = sink_use g.W.Sink.taken g.W.Sink.has_failed c.args.out.now c.args.out.now in
    rw (p.1, p.2, out_of_memory) (list_unread (list_form c.args.rows.now)
    (counts_answer c.args.zones.now) input out refl refl (Keeps-refl _, refl))

pub returns-in_err-table : goal.returns-in_err-table
returns-in_err-table g c =
    let p = err_from_is_err_and c.from_residual.result c.from_residual.ensures.1 in
    let input = source_use g.R.Source.left g.R.Source.has_failed c.args.input.now c.args.input.now in
    let out = sink_use g.W.Sink.taken g.W.Sink.has_failed c.args.out.now c.args.out.now in
    rw (p.1, p.2, c.in_err-table.ensures) (list_unread (list_form c.args.rows.now)
    (counts_answer c.args.zones.now) input out refl refl (Keeps-refl _, refl))

pub returns : goal.returns
returns g c =
    let (cells, gives, taken) = c.in_ok-tally.ensures.taken in
    let zones = c.args.zones.now in
    let others = c.in_ok-tally.tally.others in
    let out = sink_use g.W.Sink.taken g.W.Sink.has_failed c.args.out.now c.write_counts.new.out in
    let zeros : c.in_ok-counts.counts.items ≡ replicate (length zones) 0 =
    first_of (search rules, grind (arith, common_steps)) in
    let start = subst (λ l. AreCounts zones [] l 0) (sym zeros) (c.zones_are_lawful.ensures.nothing zones) in
    let told : AreCounts zones cells c.in_ok-tally.tally.counts.items others = rw c.over.ensures at taken.1 [] start in
    let wrote = rw (c.over-in_order.ensures, c.deref-2.ensures.value) at c.write_counts.ensures in
    let input = source_use g.R.Source.left g.R.Source.has_failed c.args.input.now c.take_listed.new.input in
    numbered_ends itself (list_form c.args.rows.now) (counts_answer zones) cells input _ out gives
    (inl (wrote cells told))
