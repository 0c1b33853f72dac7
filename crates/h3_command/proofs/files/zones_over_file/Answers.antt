use Rattle.std.proofs.Common.{codes, inl, inr, refl, subst}
use Rattle.std.proofs.KnownBytes.{Keeps-refl}
use Rattle.std.proofs.lemmas.Result.{err_from_is_err_and}
use Rattle.std.proofs.lemmas.List.Sorted.{IsPermutation-sym}
use Rattle.h3_lines.specs.Reads.{source_use}
use Rattle.h3_lines.specs.Write.{sink_use}
use Rattle.h3_command.specs.Rows.{rows_form}
use Rattle.h3_command.specs.Run.{EndsLines}
use Rattle.h3_command.proofs.Combined.{zones_alike}
use Rattle.h3_command.proofs.files.zones_over_file.Goals as goal

pub answer_zones-requires : goal.answer_zones-requires
answer_zones-requires g c =
    let (bytes, held, listed, gives, (same, zones)) = c.in_ok-zones.ensures.cells in
    rw c.deref.ensures.value zones

pub returns-in_err-zones : goal.returns-in_err-zones
returns-in_err-zones g c =
    let p = err_from_is_err_and c.from_residual.result c.from_residual.ensures.1 in
    let (bytes, held, refused) = c.in_err-zones.ensures.refused in
    rw (p.1, p.2) (bytes, held, inr (refused, (refl, refl), (Keeps-refl _, refl)))

pub returns : goal.returns
returns g c =
    let (bytes, held, listed, gives, (same, zones)) = c.in_ok-zones.ensures.cells in
    let items = c.in_ok-zones.zones.items in
    let input = source_use g.R.Source.left g.R.Source.has_failed c.args.input.now c.answer_zones.new.input in
    let out = sink_use g.W.Sink.taken g.W.Sink.has_failed c.args.out.now c.answer_zones.new.out in
    let form = rows_form c.args.tables.now.list (codes "zone") in
    let ends = rw c.deref.ensures.value at c.answer_zones.ensures in
    let alike =
    zones_alike items listed (λ x. c.zones_are_lawful.ensures.in_any_order.zone items listed x zones.apart
    (IsPermutation-sym listed items same)) in (
      bytes,
      held,
      inl (listed, gives, subst (λ answer. EndsLines form answer input c.answer_zones.result out) alike ends),
    )
