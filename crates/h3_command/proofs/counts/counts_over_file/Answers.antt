use Rattle.std.proofs.Common.{inl, inr, refl, subst}
use Rattle.std.proofs.KnownBytes.{Keeps-refl}
use Rattle.std.proofs.lemmas.Result.{err_from_is_err_and}
use Rattle.std.proofs.lemmas.List.Sorted.{IsPermutation-sym}
use Rattle.h3_lines.specs.List.{itself}
use Rattle.h3_lines.specs.Reads.{source_use}
use Rattle.h3_lines.specs.Write.{sink_use}
use Rattle.h3_command.specs.Rows.{list_form}
use Rattle.h3_command.specs.Run.{EndsNumberedList}
use Rattle.h3_command.proofs.Combined.{counts_alike}
use Rattle.h3_command.proofs.counts.counts_over_file.Goals as goal

pub answer_counts-requires : goal.answer_counts-requires
answer_counts-requires g c =
    let (bytes, held, listed, gives, (same, zones)) = c.in_ok-zones.ensures.cells in
    rw c.deref.ensures.value zones

pub returns-in_err-zones : goal.returns-in_err-zones
returns-in_err-zones g c =
    let p = err_from_is_err_and c.from_residual.result c.from_residual.ensures.1 in
    let (bytes, held, refused) = c.in_err-zones.ensures.refused in
    rw (p.1, p.2) (bytes, held, inr (refused, (refl, refl), (Keeps-refl _, refl)))

pub returns : goal.returns
returns g c =
    let (bytes, held, listed, gives, (same, zones)) = c.in_ok-zones.ensures.cells in
    let items = c.in_ok-zones.zones.items in
    let input = source_use g.R.Source.left g.R.Source.has_failed c.args.input.now c.answer_counts.new.input in
    let out = sink_use g.W.Sink.taken g.W.Sink.has_failed c.args.out.now c.answer_counts.new.out in
    let form = list_form c.args.tables.now.list in
    let any = c.zones_are_lawful.ensures.in_any_order in
    let back = IsPermutation-sym listed items same in
    let alike =
    counts_alike items listed (any.number items listed zones.apart zones.valid back)
    (λ x. any.covered items listed x back) in
    let ends = rw c.deref.ensures.value at c.answer_counts.ensures in (
      bytes,
      held,
      inl (
        listed,
        gives,
        subst (λ answer. EndsNumberedList itself form answer input
            c.answer_counts.result out) alike ends,
      ),
    )
