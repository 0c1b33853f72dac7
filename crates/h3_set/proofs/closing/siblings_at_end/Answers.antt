use Rattle.std.proofs.Common.{ℕ, List, [], ◌∷◌, ◌≡◌, ◌-◌, ◌<◌, length, take, drop, get_or, arith, sym, ap, refl, ◌∙◌, inl, inr}
use Rattle.std.proofs.lemmas.Bool.{cases_eq}
use Rattle.std.proofs.lemmas.List.{take_rest}
use Rattle.h3_index.specs.Cell.{resolution}
use Rattle.h3_set.specs.Compacted.{parent_of}
use Rattle.h3_set.proofs.ChildLaws.{above_is, skips_of, some_skips, Skips}
use Rattle.h3_set.proofs.EndLaws.{ends_in_six, enough, first_count, first_finds, first_left, first_level, found_last}
use Rattle.h3_set.proofs.closing.siblings_at_end.Goals as goal

some_level : (ds : List ℕ) (k : ℕ) → get_or ds k 7 ≡ 6 → 0 < length ds
some_level [] k e = absurd (omega (arith, e))
some_level (d ∷ ds) k e = omega arith

pub returns-then-digit-ne6-clause-none : goal.returns-then-digit-ne6-clause-none
returns-then-digit-ne6-clause-none c = λ z pos i is.
    let x = c.args.last in
    let level = c.resolution-level.ensures.number in
    let k = some_skips (parent_of x) in
    let at : c.max.result ≡ resolution c.args.last = omega (arith, c.max.ensures, level, pos) in
    c.if-digit-ne6.true
    (c.digit.ensures
    ∙ ap (λ n. get_or x.digits (n - 1) 7) at ∙ ends_in_six c.cells_form_trees.ensures c.args.cells.now x
    c.requires _ k.0 refl pos k.1 i is)

pub returns-then-cells-count-clause-none : goal.returns-then-cells-count-clause-none
returns-then-cells-count-clause-none c = λ z pos i is.
    let x = c.args.last in
    let level : length c.args.last.digits ≡ c.resolution-level.result = sym c.resolution-level.ensures.number in
    let above = above_is x c.ancestor_at-above.result c.resolution-level.result level c.ancestor_at-above.ensures.is in
    let k : Skips (parent_of c.args.last) c.from.result =
    skips_of (parent_of x) c.ancestor_at-above.result c.from.result c.is_pentagon.result above c.is_pentagon.ensures
    c.from.ensures in
    let room =
    enough c.cells_form_trees.ensures c.args.cells.now x c.requires c.resolution-level.result c.from.result level
    (omega (arith, pos, level)) k i is in
    omega (arith, room, c.if-cells-count.true, c.from-count.ensures)

pub siblings_at_front-requires-clause-first : goal.siblings_at_front-requires-clause-first
siblings_at_front-requires-clause-first c =
    first_left c.args.cells.now (length c.args.cells.now - c.from-count.result) c.index-cells-from.result
    c.index-cells-from.is

pub returns-then-siblings_at_front-count-clause-none :
    goal.returns-then-siblings_at_front-count-clause-none
returns-then-siblings_at_front-count-clause-none c = λ z pos i is.
    let x = c.args.last in
    let cells = c.args.cells.now in
    let tree = c.cells_form_trees.ensures in
    let q = c.resolution-level.result in
    let s = c.from.result in
    let f = c.index-cells-from.result in
    let level : length c.args.last.digits ≡ c.resolution-level.result = sym c.resolution-level.ensures.number in
    let some : 0 < c.resolution-level.result = omega (arith, pos, level) in
    let above = above_is x c.ancestor_at-above.result c.resolution-level.result level c.ancestor_at-above.ensures.is in
    let k : Skips (parent_of c.args.last) c.from.result =
    skips_of (parent_of x) c.ancestor_at-above.result c.from.result c.is_pentagon.result above c.is_pentagon.ensures
    c.from.ensures in
    let same : c.from-count.result ≡ 7 - c.from.result = c.from-count.ensures in
    let here : c.index-cells-from.result
    ≡ get_or c.args.cells.now (length c.args.cells.now - (7 - c.from.result)) c.index-cells-from.result =
    c.index-cells-from.is ∙ ap (λ m. get_or cells (length c.args.cells.now - m) f) same in
    let at_f = first_level tree cells x c.requires q s level some k i is f here in
    let count = first_count tree cells x c.requires q s level some k i is f here in
    let finds = first_finds tree cells x c.requires q s level some k i is f here in
    let tail : take (length c.args.cells.now - (length c.args.cells.now - c.from-count.result))
    (drop (length c.args.cells.now - c.from-count.result) c.args.cells.now)
    ≡ drop (length c.args.cells.now - c.from-count.result) c.args.cells.now =
    take_rest cells (length c.args.cells.now - c.from-count.result) in
    elim (cases_eq c.siblings_at_front.result 0) [
      | inl none ↦ c.siblings_at_front.ensures.none none at_f (rw tail (rw same finds))
      | inr other ↦
          c.if-siblings_at_front-count.true
          (c.siblings_at_front.ensures.count (omega (arith, other)) ∙ count ∙ sym same)
    ]

pub returns-clause-siblings : goal.returns-clause-siblings
returns-clause-siblings c = λ any.
    let x = c.args.last in
    let cells = c.args.cells.now in
    let f = c.index-cells-from.result in
    let level : length c.args.last.digits ≡ c.resolution-level.result = sym c.resolution-level.ensures.number in
    let above = above_is x c.ancestor_at-above.result c.resolution-level.result level c.ancestor_at-above.ensures.is in
    let k : Skips (parent_of c.args.last) c.from.result =
    skips_of (parent_of x) c.ancestor_at-above.result c.from.result c.is_pentagon.result above c.is_pentagon.ensures
    c.from.ensures in
    let same : c.from-count.result ≡ 7 - c.from.result = c.from-count.ensures in
    let equal = c.if-siblings_at_front-count.false in
    let some : 0 < c.siblings_at_front.result = omega (arith, equal, any) in
    let pos : 0 < c.resolution-level.result =
    omega (arith, level, some_level x.digits (c.max.result - 1) (sym c.digit.ensures ∙ c.if-digit-ne6.false)) in
    let tail : take (length c.args.cells.now - (length c.args.cells.now - c.from-count.result))
    (drop (length c.args.cells.now - c.from-count.result) c.args.cells.now)
    ≡ drop (length c.args.cells.now - c.from-count.result) c.args.cells.now =
    take_rest cells (length c.args.cells.now - c.from-count.result) in
    let of_f = some_skips (parent_of f) in
    let found = c.siblings_at_front.ensures.siblings some in
    rw same (found_last c.cells_form_trees.ensures cells x c.requires c.resolution-level.result c.from.result level pos
    k f (omega (arith, same, c.if-cells-count.false)) of_f.0 of_f.1 (c.siblings_at_front.ensures.level some)
    (sym same ∙ sym equal ∙ c.siblings_at_front.ensures.count some) (rw same at (rw tail at (rw equal at found))))

pub returns-then-digit-ne6-clause-siblings : goal.returns-then-digit-ne6-clause-siblings
returns-then-digit-ne6-clause-siblings c = λ some. absurd (omega (arith, some))

pub returns-then-cells-count-clause-siblings : goal.returns-then-cells-count-clause-siblings
returns-then-cells-count-clause-siblings c = λ some. absurd (omega (arith, some))

pub returns-then-siblings_at_front-count-clause-siblings : goal.returns-then-siblings_at_front-count-clause-siblings
returns-then-siblings_at_front-count-clause-siblings c = λ some. absurd (omega (arith, some))
