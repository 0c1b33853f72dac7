use Rattle.std.proofs.Common.{ℕ, ◌≡◌, ◌<◌, length, slice_get, Some, Contains, arith, sym, ap, subst, get_or}
use Rattle.std.proofs.lemmas.Option.{get_or_from_slice_get, slice_get_within}
use Rattle.h3_index.specs.Cell.{Address}
use Rattle.h3_regions.specs.Areas.{LiesIn}
use Rattle.h3_regions.proofs.ApartLaws.{lies_there, no_area, none_there, one_area, one_there, same_size, zones}
use Rattle.h3_regions.proofs.apart.ApartAreas.area_near.Goals as goal
use Rattle.h3_regions.proofs.apart.ApartAreas.area_near.Goals.{After-index-self-place, In-None}

pub over-requires : goal.over-requires
over-requires c = zones c.self.inside.pairs.now c.self.inside.cells.now c.self.invariant

slot : (c : After-index-self-place) → slice_get c.self.inside.cells.now c.zone_near.new.place ≡ Some c.in-Some.field-0
slot c = subst (λ l. slice_get l c.zone_near.new.place ≡ Some c.in-Some.field-0) c.over.ensures c.in-Some.ensures.place

within : (c : After-index-self-place) → c.zone_near.new.place < length c.self.inside.cells.now
within c = slice_get_within c.self.inside.cells.now c.zone_near.new.place c.in-Some.field-0 (slot c)

at : (c : After-index-self-place)
    → get_or c.self.inside.cells.now c.zone_near.new.place c.in-Some.field-0 ≡ c.in-Some.field-0
at c =
    get_or_from_slice_get c.self.inside.cells.now c.zone_near.new.place c.in-Some.field-0 c.in-Some.field-0 (slot c)

pub bounds-self-inside-place : goal.bounds-self-inside-place
bounds-self-inside-place c =
    let here =
    subst (λ l. slice_get l c.zone_near.new.place ≡ Some c.in-Some.field-0) c.over.ensures c.in-Some.ensures.place
    in
    let lt = slice_get_within c.self.inside.cells.now c.zone_near.new.place c.in-Some.field-0 here in
    omega (arith, lt, same_size c.self.inside.pairs.now c.self.inside.cells.now c.self.invariant)

pub offset_bounds-self-inside-place : goal.offset_bounds-self-inside-place
offset_bounds-self-inside-place c =
    let here =
    subst (λ l. slice_get l c.zone_near.new.place ≡ Some c.in-Some.field-0) c.over.ensures c.in-Some.ensures.place
    in
    let lt = slice_get_within c.self.inside.cells.now c.zone_near.new.place c.in-Some.field-0 here in
    let room : c.zone_near.new.place < length c.self.inside.pairs.now =
    omega (arith, lt, same_size c.self.inside.pairs.now c.self.inside.cells.now c.self.invariant) in
    omega (arith, room)

lies : (c : After-index-self-place) (d : Address × ℕ)
    → LiesIn c.args.self.now c.args.cell (get_or c.self.inside.pairs.now c.zone_near.new.place d).1
lies c d =
    subst (λ l. LiesIn l c.args.cell (get_or c.self.inside.pairs.now c.zone_near.new.place d).1) c.self.view_is
    (lies_there c.self.inside.pairs.now c.self.inside.cells.now c.self.invariant c.cells_form_trees.ensures c.args.cell
    c.in-Some.field-0 c.zone_near.new.place (within c) (at c) c.in-Some.ensures.found.1 d)

one : (c : After-index-self-place) (d : Address × ℕ) (n : ℕ) → LiesIn c.args.self.now c.args.cell n
    → (get_or c.self.inside.pairs.now c.zone_near.new.place d).1 ≡ n
one c d n h =
    one_there c.self.inside.pairs.now c.self.inside.cells.now c.self.invariant c.cells_form_trees.ensures c.args.cell
    c.in-Some.field-0 c.zone_near.new.place (within c) (at c) c.in-Some.ensures.found.1 d n
    (λ y m over. c.in-Some.ensures.one y (subst (λ l. Contains l y) (sym c.over.ensures) m) over)
    (subst (λ l. LiesIn l c.args.cell n) (sym c.self.view_is) h)

pub returns-in-Some-clause-lies : goal.returns-in-Some-clause-lies
returns-in-Some-clause-lies c = lies c c.index-self-place.result

pub returns-in-Some-clause-one : goal.returns-in-Some-clause-one
returns-in-Some-clause-one c = λ n h. ap Some (one c c.index-self-place.result n h)

pub returns-in-Some-clause-is : goal.returns-in-Some-clause-is
returns-in-Some-clause-is c =
    one_area c.cells_form_trees.ensures c.coverages_decide_lists.ensures.ancestors c.args.self.now c.args.cell
    c.raw-number.ensures.valid.coarse _ (lies c c.index-self-place.result) (one c c.index-self-place.result)

none : (c : In-None) (n : ℕ) → ¬ LiesIn c.args.self.now c.args.cell n
none c n h =
    none_there c.self.inside.pairs.now c.self.inside.cells.now c.self.invariant c.args.cell n
    (λ y m over. c.in-None.ensures.one y (subst (λ l. Contains l y) (sym c.over.ensures) m) over)
    (subst (λ l. LiesIn l c.args.cell n) (sym c.self.view_is) h)

pub returns-in-None-clause-one : goal.returns-in-None-clause-one
returns-in-None-clause-one c = λ n h. absurd (none c n h)

pub returns-in-None-clause-is : goal.returns-in-None-clause-is
returns-in-None-clause-is c =
    no_area c.cells_form_trees.ensures c.coverages_decide_lists.ensures.ancestors c.args.self.now c.args.cell
    c.raw-number.ensures.valid.coarse (none c)
