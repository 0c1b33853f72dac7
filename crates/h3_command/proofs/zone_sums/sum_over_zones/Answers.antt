use Rattle.std.proofs.Common.{◌≡◌, ◌∙◌, ◌++◌, List, Option, ℕ, arith, codes, drop, length, rules, take, inl, inr, refl, ap, subst, sym}
use Rattle.std.proofs.Math.Path.{fun_ext}
use Rattle.std.proofs.KnownBytes.{Keeps-refl}
use Rattle.std.proofs.lemmas.Grind.{common_steps}
use Rattle.std.proofs.lemmas.List.Sorted.{IsPermutation-sym}
use Rattle.std.proofs.lemmas.Result.{err_from_is_err_and}
use Rattle.h3_index.specs.Cell.{Address}
use Rattle.h3_lines.specs.Answer.{written}
use Rattle.h3_lines.specs.Reads.{source_use}
use Rattle.h3_lines.specs.Write.{sink_use}
use Rattle.h3_regions.specs.Zones.{by_number}
use Rattle.h3_rows.specs.Named.{Entry, table_of}
use Rattle.h3_rows.specs.declared.table.FieldContent.TheVariants.{Number}
use Rattle.h3_set.specs.Coverage.{IsApart, is_covered}
use Rattle.h3_command.specs.Run.{EndsEntries}
use Rattle.h3_command.specs.SumAnswers.{amounts_among, sum_titles}
use Rattle.h3_command.specs.SumTables.{sums_table}
use Rattle.h3_command.specs.ZoneSums.{zones_have_header}
use Rattle.h3_command.specs.ZoneTally.{sums_of_zones}
use Rattle.h3_command.proofs.SummedZones.{sums_ordered}
use Rattle.h3_command.proofs.zone_sums.sum_over_zones.Goals as goal

pub returns-in_err-zones : goal.returns-in_err-zones
returns-in_err-zones g c =
    let p = err_from_is_err_and c.from_residual.result c.from_residual.ensures.1 in
    let (bytes, held, refused) = c.in_err-zones.ensures.refused in
    rw (p.1, p.2) (bytes, held, inr (refused, (refl, refl), (Keeps-refl _, refl)))

pub order_by_number-requires : goal.order_by_number-requires
order_by_number-requires g c =
    let (bytes, held, listed, gives, (same, zones)) = c.in_ok-zones.ensures.cells in
    rw c.deref_mut.ensures.value zones.apart

pub sum_zones-requires-clause-apart : goal.sum_zones-requires-clause-apart
sum_zones-requires-clause-apart g c =
    let (bytes, held, listed, gives, (same, zones)) = c.in_ok-zones.ensures.cells in
    let items = c.in_ok-zones.zones.items in
    let ordered = c.order_by_number.new.cells in
    let whole : take c.in_ok-zones.zones.len (ordered ++ drop (length ordered) items) ≡ ordered =
    first_of (search rules, grind (arith, common_steps)) in
    let moved = rw c.deref_mut.ensures.value at c.order_by_number.ensures.same in
    let apart : IsApart ordered = c.coverages_decide_lists.ensures.reordered items ordered moved zones.apart in
    subst IsApart (sym (c.deref.ensures.value ∙ whole)) apart

pub returns : goal.returns
returns g c =
    let (bytes, held, listed, gives, (same, zones)) = c.in_ok-zones.ensures.cells in
    let input = source_use g.R.Source.left g.R.Source.has_failed c.args.input.now c.sum_zones.new.input in
    let out = sink_use g.W.Sink.taken g.W.Sink.has_failed c.args.out.now c.sum_zones.new.out in
    let items = c.in_ok-zones.zones.items in
    let ordered = c.order_by_number.new.cells in
    let list = c.args.list.now in
    let any = c.zones_are_lawful.ensures.in_any_order in
    let back = IsPermutation-sym listed items same in
    let moved = rw c.deref_mut.ensures.value at c.order_by_number.ensures.same in
    let number : ordered ≡ by_number listed =
    rw c.deref_mut.ensures.value at c.order_by_number.ensures.is
    ∙ any.number items listed zones.apart zones.valid back in
    let covered : (x : Address) → is_covered ordered x ≡ is_covered listed x =
    λ x. sym (any.covered items ordered x moved) ∙ any.covered items listed x back in
    let whole : take c.in_ok-zones.zones.len (ordered ++ drop (length ordered) items) ≡ ordered =
    first_of (search rules, grind (arith, common_steps)) in
    let titles : List Entry → Option (List ℕ × List ℕ) =
    λ rows. sum_titles (zones_have_header c.args.file_rows.now list) (codes "zone") rows in
    let ends =
    subst (λ about. EndsEntries (table_of list c.args.field.now Number) about input c.sum_zones.result out)
    (fun_ext (λ rows. ap (λ r. written (sums_table list.separator (titles rows) r))
    (sums_ordered listed ordered (amounts_among list.quotes rows) number covered)))
    (subst (λ l. EndsEntries (table_of list c.args.field.now Number)
    (λ rows. written (sums_table list.separator (titles rows)
    (sums_of_zones l (amounts_among list.quotes rows)))) input c.sum_zones.result out)
    (c.deref.ensures.value ∙ whole) c.sum_zones.ensures) in
    (bytes, held, inl (listed, gives, ends))
