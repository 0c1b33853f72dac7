use Rattle.std.proofs.Common.{◌≤◌, ◌∙◌, Ok, length, sym, arith}
use Rattle.std.proofs.lemmas.List.{length-map}
use Rattle.h3_functions.specs.Inspection.{cell_from, for_value}
use Rattle.h3_regions.specs.Areas.{areas_of}
use Rattle.h3_c.specs.Overlapping.{area_counts}
use Rattle.h3_c.specs.Starts.{fitting, sizes_of}
use Rattle.h3_c.proofs.Laid.{is_no_more}
use Rattle.h3_c.proofs.OverlappingLaws.{same_code, same_place}
use Rattle.h3_c.proofs.overlapping.fill_areas.Goals as goal

pub returns-clause-code : goal.returns-clause-code
returns-clause-code c =
    let areas = c.args.areas.now in
    let hs = c.args.indexes.now in
    let long = length-map hs (λ h. for_value (λ x. Ok (length (areas_of areas x))) (cell_from h)) in
    let fits : length (area_counts areas hs) ≤ fitting (length c.args.numbers.now) (sizes_of (area_counts areas hs)) =
    omega (arith, long, c.put_all_areas-fitting.ensures.fitting, c.if-fitting-indexes.false) in
    rw (is_no_more (length (area_counts areas hs))
    (fitting (length c.args.numbers.now) (sizes_of (area_counts areas hs))) fits) (c.judge.ensures.code ∙ sym
    (same_code areas hs))

pub returns-clause-place : goal.returns-clause-place
returns-clause-place c =
    let areas = c.args.areas.now in
    let hs = c.args.indexes.now in
    let long = length-map hs (λ h. for_value (λ x. Ok (length (areas_of areas x))) (cell_from h)) in
    let fits : length (area_counts areas hs) ≤ fitting (length c.args.numbers.now) (sizes_of (area_counts areas hs)) =
    omega (arith, long, c.put_all_areas-fitting.ensures.fitting, c.if-fitting-indexes.false) in
    rw (is_no_more (length (area_counts areas hs))
    (fitting (length c.args.numbers.now) (sizes_of (area_counts areas hs))) fits) (c.judge.ensures.place ∙ sym
    (same_place areas hs))
