use Rattle.std.proofs.Common.{ℕ, List, Option, option_map, subst}
use Rattle.h3_lines.specs.Answer.{written}
use Rattle.h3_lines.specs.Write.{Writes, sink_use}
use Rattle.h3_command.specs.AreaCounts.{counts_table}
use Rattle.h3_command.proofs.AncestorRuns.{counts_permuted}
use Rattle.h3_command.proofs.parents.write_parent_counts.Goals as goal

pub write_ordered-requires : goal.write_ordered-requires
write_ordered-requires g c = c.put_in_order.ensures.in_order

pub returns : goal.returns
returns g c =
    let same =
    counts_permuted c.numbers_are_unique.ensures c.zones_are_lawful.ensures.by_number c.args.cells.now
    c.put_in_order.new.items c.have_cells.ensures c.put_in_order.ensures.same in
    let title : Option (List ℕ) = option_map (λ t. t.now) c.args.title in
    subst (λ rows. Writes (written (counts_table c.args.separator title rows)) c.write_ordered.result
    (sink_use g.W.Sink.taken g.W.Sink.has_failed c.args.out.now c.write_ordered.new.out)) same c.write_ordered.ensures
