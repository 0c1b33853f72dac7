use Rattle.std.proofs.Common.{◌++◌, ◌∷◌, [], ◌∙◌, None, ap}
use Rattle.h3_regions.specs.Counting.{count_in}
use Rattle.h3_regions.specs.Zones.{by_number}
use Rattle.h3_command.specs.CountLines.{in_passes, lines_left}
use Rattle.h3_command.specs.Files.{zone_counts}
use Rattle.h3_command.proofs.CountPasses.{counts_in_passes, from_start, zones_by_number}
use Rattle.h3_command.proofs.count_lines.CountLines.new.Goals as goal

pub returns : goal.returns
unfolding lines_left
returns c cells told =
    let zones = c.args.zones.now in
    let others = (None, c.args.others) ∷ [] in
    ap (λ l. l ++ others) (
    from_start 16 c.cells.result.now c.args.counts.now
    ∙ ap (λ z. in_passes 16 z c.args.counts.now) c.cells.ensures.is
    ∙ ap (in_passes 16 zones) told.each
    ∙ counts_in_passes (λ zone. count_in zone cells) 16 zones
    ∙ ap (λ z. zone_counts z cells) (zones_by_number c.cells_form_intervals.ensures zones c.cells.ensures.zones
    c.zones_are_lawful.ensures.by_number)
    )
    ∙ ap (λ n. zone_counts (by_number zones) cells ++ (None, n) ∷ []) told.none
