use Rattle.std.proofs.Common.{◌∙◌, IsPermutation, length, zip, ap, inr, subst, sym, arith}
use Rattle.h3_c.specs.Lists.{laid_over}
use Rattle.h3_c.specs.Overlapping.{all_areas, area_counts}
use Rattle.h3_c.specs.Starts.{lists_code, lists_place, starts_over}
use Rattle.h3_c.proofs.OverlappingLaws.{all_same, areas_stand, comes, counts_same}
use Rattle.h3_c.proofs.PlaceLaws.{pairs_fewer}
use Rattle.h3_c.proofs.overlapping.h3w_cellsToAreas.Goals as goal

pub returns-then-areas-area_cells-clause-law : goal.returns-then-areas-area_cells-clause-law
returns-then-areas-area_cells-clause-law c = areas_stand

pub returns-in-Err-clause-law : goal.returns-in-Err-clause-law
returns-in-Err-clause-law c = areas_stand

pub returns-in-Err-pairs_of-clause-law : goal.returns-in-Err-pairs_of-clause-law
returns-in-Err-pairs_of-clause-law c = areas_stand

pub returns-in-Err-to_vec-clause-law : goal.returns-in-Err-to_vec-clause-law
returns-in-Err-to_vec-clause-law c = areas_stand

pub fill_areas-requires-clause-slots : goal.fill_areas-requires-clause-slots
fill_areas-requires-clause-slots c =
    let pairs_are =
    c.deref_mut.ensures.value ∙ c.in-Ok-pairs_of.ensures.pairs
    ∙ ap (λ l. zip l c.args.areas.now) c.deref.ensures.value in
    omega (
      arith,
      c.of.ensures.size,
      ap length pairs_are,
      pairs_fewer c.in-Ok.given.items c.args.areas.now,
      c.in-Ok.ensures.long,
      c.if-areas-area_cells.false,
      c.in-Ok-to_vec.ensures.len,
      ap length c.deref_mut-2.ensures.value,
    )

pub returns-clause-code : goal.returns-clause-code
returns-clause-code c =
    let pairs = zip c.in-Ok.given.items c.args.areas.now in
    let hs = c.args.cells.now in
    let pairs_are =
    c.deref_mut.ensures.value ∙ c.in-Ok-pairs_of.ensures.pairs
    ∙ ap (λ l. zip l c.args.areas.now) c.deref.ensures.value in
    let same = subst (λ l. IsPermutation l c.of.result) pairs_are c.of.ensures.same in
    let room = length c.args.numbers.now in
    inr (c.fill_areas.ensures.code
    ∙ ap (λ l. lists_code l room) (sym (counts_same c.areas_are_lawful.ensures.in_any_order pairs c.of.result same hs))
    ∙ sym (comes c.args.area_cells.now c.args.areas.now hs (length c.args.starts.now) c.in-Ok.given.items
    c.if-areas-area_cells.false c.if-starts-cells.false c.in-Ok.ensures.read
    (λ areas. lists_code (area_counts areas hs) room) 5 14))

pub returns-clause-starts : goal.returns-clause-starts
returns-clause-starts c = λ _.
    let pairs = zip c.in-Ok.given.items c.args.areas.now in
    let hs = c.args.cells.now in
    let pairs_are =
    c.deref_mut.ensures.value ∙ c.in-Ok-pairs_of.ensures.pairs
    ∙ ap (λ l. zip l c.args.areas.now) c.deref.ensures.value in
    let same = subst (λ l. IsPermutation l c.of.result) pairs_are c.of.ensures.same in
    let old = c.args.starts.now in
    c.fill_areas.ensures.starts
    ∙ ap (λ l. starts_over l old) (sym (counts_same c.areas_are_lawful.ensures.in_any_order pairs c.of.result same hs))
    ∙ sym (comes c.args.area_cells.now c.args.areas.now hs
    (length old) c.in-Ok.given.items c.if-areas-area_cells.false c.if-starts-cells.false c.in-Ok.ensures.read
    (λ areas. starts_over (area_counts areas hs) old) old old)

pub returns-clause-numbers : goal.returns-clause-numbers
returns-clause-numbers c = λ _.
    let pairs = zip c.in-Ok.given.items c.args.areas.now in
    let hs = c.args.cells.now in
    let pairs_are =
    c.deref_mut.ensures.value ∙ c.in-Ok-pairs_of.ensures.pairs
    ∙ ap (λ l. zip l c.args.areas.now) c.deref.ensures.value in
    let same = subst (λ l. IsPermutation l c.of.result) pairs_are c.of.ensures.same in
    let old = c.args.numbers.now in
    c.fill_areas.ensures.numbers
    ∙ ap (λ l. laid_over l old) (sym (all_same c.areas_are_lawful.ensures.in_any_order pairs c.of.result same hs))
    ∙ sym (comes c.args.area_cells.now c.args.areas.now hs (length c.args.starts.now) c.in-Ok.given.items
    c.if-areas-area_cells.false c.if-starts-cells.false c.in-Ok.ensures.read
    (λ areas. laid_over (all_areas areas hs) old) old old)

pub returns-clause-place : goal.returns-clause-place
returns-clause-place c = λ _.
    let pairs = zip c.in-Ok.given.items c.args.areas.now in
    let hs = c.args.cells.now in
    let pairs_are =
    c.deref_mut.ensures.value ∙ c.in-Ok-pairs_of.ensures.pairs
    ∙ ap (λ l. zip l c.args.areas.now) c.deref.ensures.value in
    let same = subst (λ l. IsPermutation l c.of.result) pairs_are c.of.ensures.same in
    let room = length c.args.numbers.now in
    c.fill_areas.ensures.place
    ∙ ap (λ l. lists_place l room) (sym (counts_same c.areas_are_lawful.ensures.in_any_order pairs c.of.result same hs))
    ∙ sym (comes c.args.area_cells.now c.args.areas.now hs (length c.args.starts.now) c.in-Ok.given.items
    c.if-areas-area_cells.false c.if-starts-cells.false c.in-Ok.ensures.read
    (λ areas. lists_place (area_counts areas hs) room) c.args.at.now c.args.at.now)

pub returns-clause-kept : goal.returns-clause-kept
returns-clause-kept c = λ e. absurd (c.fill_areas.ensures.memory e)

pub returns-clause-law : goal.returns-clause-law
returns-clause-law c = areas_stand
