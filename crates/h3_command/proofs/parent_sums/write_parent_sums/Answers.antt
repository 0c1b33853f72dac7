use Rattle.std.proofs.Common.{ℕ, List, Option, inl, option_map, subst}
use Rattle.h3_lines.specs.Answer.{written}
use Rattle.h3_lines.specs.Write.{Writes, sink_use}
use Rattle.h3_command.specs.SumTables.{sums_table}
use Rattle.h3_command.proofs.AncestorSums.{sums_permuted}
use Rattle.h3_command.proofs.parent_sums.write_parent_sums.Goals as goal

pub write_ordered-requires-clause-in_order : goal.write_ordered-requires-clause-in_order
write_ordered-requires-clause-in_order g c = c.put_in_order.ensures.in_order

pub returns : goal.returns
returns g c =
    let same =
    sums_permuted c.totals_are_lawful.ensures.order c.numbers_are_unique.ensures c.zones_are_lawful.ensures.by_number
    c.args.pairs.now c.put_in_order.new.items c.have_cells.ensures c.put_in_order.ensures.same in
    let titles : Option (List ℕ × List ℕ) = option_map (λ t. (t.0.now, t.1.now)) c.args.titles in
    inl (subst (λ rows. Writes (written (sums_table c.args.separator titles rows)) c.write_ordered.result
    (sink_use g.W.Sink.taken g.W.Sink.has_failed c.args.out.now c.write_ordered.new.out)) same c.write_ordered.ensures)
