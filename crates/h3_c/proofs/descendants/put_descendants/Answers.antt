use Rattle.std.proofs.Common.{arith, ◌≡◌, ◌≤◌, ◌+◌, ◌-◌, ◌++◌, ◌∷◌, [], ℕ, List, length, drop, refl, sym, ap, ◌∙◌, append_assoc, Contains, subst}
use Rattle.std.specs.Iterator.{Yields, YieldsFirst}
use Rattle.std.specs.List.{flat_map}
use Rattle.std.proofs.lemmas.Iterator.Consumers.{YieldsList-from_first}
use Rattle.std.proofs.lemmas.List.{append-nil, length-append}
use Rattle.std.proofs.lemmas.List.Elements.{Contains-append_left, Contains-push}
use Rattle.std.proofs.lemmas.List.Concat.{flat_map-append}
use Rattle.h3_index.specs.Cell.{Address}
use Rattle.h3_index.specs.Descendants.{descendants}
use Rattle.h3_tree.specs.Children.{children_left}
use Rattle.h3_c.specs.Lists.{indexes, laid_over}
use Rattle.h3_c.proofs.DescendantLaws.{descendants-between}
use Rattle.h3_c.proofs.Items.{split_at, whole_at}
use Rattle.h3_c.proofs.Laid.{is_more, is_no_more, length-laid_over}
use Rattle.h3_c.proofs.StartLaws.{has_no_room, has_room, put-full}
use Rattle.h3_c.proofs.descendants.put_descendants.Goals as goal

-- those of one cell more
one_more : (r : ℕ) (ks : List Address) (k : Address)
    → flat_map (λ c. descendants c r) (ks ++ k ∷ []) ≡ flat_map (λ c. descendants c r) ks ++ descendants k r
one_more r ks k =
    flat_map-append (λ c. descendants c r) ks (k ∷ [])
    ∙ ap (λ l. flat_map (λ c. descendants c r) ks ++ l) (append-nil (descendants k r))

-- all descendants, where a cell comes after some, and others come after it
split : (r : ℕ) (all ks rest : List Address) (k : Address) (ds : List Address) → all ≡ ks ++ k ∷ rest
    → ds ≡ flat_map (λ c. descendants c r) all
    → ds ≡ (flat_map (λ c. descendants c r) ks ++ descendants k r) ++ flat_map (λ c. descendants c r) rest
split r all ks rest k ds is list =
    let below : List Address → List Address = flat_map (λ c. descendants c r) in
    list ∙ ap below is ∙ flat_map-append (λ c. descendants c r) ks (k ∷ rest)
    ∙ sym (append_assoc (below ks) (descendants k r) (below rest))

pub loop-above-preserved : goal.loop-above-preserved
loop-above-preserved c =
    let r = c.args.r in
    let ks = c.loop-above.yielded in
    let k = c.in-Some.above in
    let below = flat_map (λ x. descendants x r) ks in
    let same : length c.loop-above.out ≡ length c.args.out.now = c.loop-above.auto.out in
    let (at, fits) =
    has_room (c.loop-above.end
    + length (descendants k r)) _ c.in-Some-put_two_levels.next c.in-Some-put_two_levels.ensures.end in
    let next : flat_map (λ x. descendants x r) (ks ++ k ∷ []) ≡ below ++ descendants k r = one_more r ks k in
    let long : length (flat_map (λ x. descendants x r) (ks ++ k ∷ [])) ≡ length below + length (descendants k r) =
    ap length next ∙ length-append below (descendants k r) in
    record {
      count = omega (arith, at, long, c.loop-above.invariant.count);
      within = omega (arith, at, fits, same);
      put = λ before first size is.
          let on : length (before ++ below) ≡ c.loop-above.end =
          omega (arith, length-append before below, size, c.loop-above.invariant.count) in
          c.in-Some-put_two_levels.ensures.put (before ++ below) first on
          (c.loop-above.invariant.put before first size is)
          ∙ ap (λ l. laid_over (indexes l) first)
          (append_assoc before below (descendants k r) ∙ ap (λ l. before ++ l) (sym next));
    }

-- a cell among others
among : (all ks rest : List Address) (k : Address) → all ≡ ks ++ k ∷ rest → Contains all k
among all ks rest k is =
    subst (λ l. Contains l k) (append_assoc ks (k ∷ []) rest ∙ sym is)
    (Contains-append_left (ks ++ k ∷ []) rest k (Contains-push ks k))

pub put_two_levels-requires-clause-levels : goal.put_two_levels-requires-clause-levels
put_two_levels-requires-clause-levels c =
    let all = children_left c.children_at-above-items.result in
    let ks = c.loop-above.yielded in
    let k = c.in-Some.above in
    let so_far : Yields (YieldsFirst children_left) c.into_iter-above-iterator.result ks c.loop-above.above-iterator =
    c.loop-above.yielded_by in
    let e = (YieldsList-from_first (λ x. x) children_left all refl).runs in
    let is =
    split_at (YieldsFirst children_left) e _ c.into_iter-above-iterator.ensures.into_iter_gives _ _ so_far _ _
    c.in-Some.ensures.steps in
    let known = (c.children_at-above-items.ensures.members k).0 (among all ks (drop (length ks + 1) all) k is) in
    omega (
      arith,
      known.resolution_is,
      c.requires.not_coarser,
      c.resolution.ensures.number,
      c.if-levels-eq0.false,
      c.if-levels-eq1.false,
    )

pub returns-in-None-put_two_levels-clause-end : goal.returns-in-None-put_two_levels-clause-end
returns-in-None-put_two_levels-clause-end c =
    let r = c.args.r in
    let all = children_left c.children_at-above-items.result in
    let ks = c.loop-above.yielded in
    let k = c.in-Some.above in
    let so_far : Yields (YieldsFirst children_left) c.into_iter-above-iterator.result ks c.loop-above.above-iterator =
    c.loop-above.yielded_by in
    let e = (YieldsList-from_first (λ x. x) children_left all refl).runs in
    let is =
    split_at (YieldsFirst children_left) e _ c.into_iter-above-iterator.ensures.into_iter_gives _ _ so_far _ _
    c.in-Some.ensures.steps in
    let rest = drop (length ks + 1) all in
    let below : List Address → List Address = flat_map (λ x. descendants x r) in
    let two : length c.args.cell.digits + 2 ≤ r =
    omega (
      arith,
      c.requires.not_coarser,
      c.resolution.ensures.number,
      c.if-levels-eq0.false,
      c.if-levels-eq1.false,
    ) in
    let list : descendants c.args.cell r ≡ below all =
    descendants-between c.args.cell (r - 2) r (omega (arith, two)) (omega (arith, two))
    ∙ ap below (sym c.children_at-above-items.ensures.list) in
    let whole : descendants c.args.cell r ≡ (below ks ++ descendants k r) ++ below rest =
    split r all ks rest k (descendants c.args.cell r) is list in
    let long : length (descendants c.args.cell r) ≡ length (below ks) + length (descendants k r) + length (below rest) =
    ap length whole ∙ length-append (below ks ++ descendants k r) (below rest)
    ∙ ap (λ n. n + length (below rest)) (length-append (below ks) (descendants k r)) in
    let full = has_no_room (c.loop-above.end + length (descendants k r)) _ c.in-None-put_two_levels.ensures.end in
    let same : length c.loop-above.out ≡ length c.args.out.now = c.loop-above.auto.out in
    rw (is_more (c.args.place + length (descendants c.args.cell r)) (length c.args.out.now)
    (omega (arith, same, long, full, c.loop-above.invariant.count))) refl

pub returns-in-None-put_two_levels-clause-put : goal.returns-in-None-put_two_levels-clause-put
returns-in-None-put_two_levels-clause-put c before first size put =
    let r = c.args.r in
    let all = children_left c.children_at-above-items.result in
    let ks = c.loop-above.yielded in
    let k = c.in-Some.above in
    let so_far : Yields (YieldsFirst children_left) c.into_iter-above-iterator.result ks c.loop-above.above-iterator =
    c.loop-above.yielded_by in
    let e = (YieldsList-from_first (λ x. x) children_left all refl).runs in
    let is =
    split_at (YieldsFirst children_left) e _ c.into_iter-above-iterator.ensures.into_iter_gives _ _ so_far _ _
    c.in-Some.ensures.steps in
    let rest = drop (length ks + 1) all in
    let below : List Address → List Address = flat_map (λ x. descendants x r) in
    let two : length c.args.cell.digits + 2 ≤ r =
    omega (
      arith,
      c.requires.not_coarser,
      c.resolution.ensures.number,
      c.if-levels-eq0.false,
      c.if-levels-eq1.false,
    ) in
    let list : descendants c.args.cell r ≡ below all =
    descendants-between c.args.cell (r - 2) r (omega (arith, two)) (omega (arith, two))
    ∙ ap below (sym c.children_at-above-items.ensures.list) in
    let whole : descendants c.args.cell r ≡ (below ks ++ descendants k r) ++ below rest =
    split r all ks rest k (descendants c.args.cell r) is list in
    let full = has_no_room (c.loop-above.end + length (descendants k r)) _ c.in-None-put_two_levels.ensures.end in
    let same : length c.loop-above.out ≡ length c.args.out.now = c.loop-above.auto.out in
    let room : length first ≡ length c.args.out.now = sym (ap length put ∙ length-laid_over (indexes before) first) in
    let on : length (before ++ below ks) ≡ c.loop-above.end =
    omega (arith, length-append before (below ks), size, c.loop-above.invariant.count) in
    c.in-None-put_two_levels.ensures.put (before ++ below ks) first on
    (c.loop-above.invariant.put before first size put)
    ∙ ap (λ l. laid_over (indexes l) first) (append_assoc before (below ks) (descendants k r))
    ∙ sym (ap (λ l. laid_over (indexes (before ++ l)) first) whole
    ∙ put-full before (below ks ++ descendants k r) (below rest) first
    (omega
    (arith, length-append (below ks) (descendants k r), full, same, room, size, c.loop-above.invariant.count)))

pub returns-clause-end : goal.returns-clause-end
returns-clause-end c =
    let r = c.args.r in
    let all = children_left c.children_at-above-items.result in
    let ks = c.loop-above.yielded in
    let so_far : Yields (YieldsFirst children_left) c.into_iter-above-iterator.result ks c.loop-above.above-iterator =
    c.loop-above.yielded_by in
    let e = (YieldsList-from_first (λ x. x) children_left all refl).runs in
    let is : all ≡ ks =
    whole_at (YieldsFirst children_left) e _ c.into_iter-above-iterator.ensures.into_iter_gives _ _ so_far _
    c.in-None.ensures.steps in
    let below : List Address → List Address = flat_map (λ x. descendants x r) in
    let two : length c.args.cell.digits + 2 ≤ r =
    omega (
      arith,
      c.requires.not_coarser,
      c.resolution.ensures.number,
      c.if-levels-eq0.false,
      c.if-levels-eq1.false,
    ) in
    let list : descendants c.args.cell r ≡ below ks =
    descendants-between c.args.cell (r - 2) r (omega (arith, two)) (omega (arith, two))
    ∙ ap below (sym c.children_at-above-items.ensures.list ∙ is) in
    let at : c.args.place + length (descendants c.args.cell r) ≡ c.loop-above.end =
    omega (arith, ap length list, c.loop-above.invariant.count) in
    rw (at, is_no_more c.loop-above.end (length c.args.out.now) c.loop-above.invariant.within) refl

pub returns-clause-put : goal.returns-clause-put
returns-clause-put c before first size put =
    let r = c.args.r in
    let all = children_left c.children_at-above-items.result in
    let ks = c.loop-above.yielded in
    let so_far : Yields (YieldsFirst children_left) c.into_iter-above-iterator.result ks c.loop-above.above-iterator =
    c.loop-above.yielded_by in
    let e = (YieldsList-from_first (λ x. x) children_left all refl).runs in
    let is : all ≡ ks =
    whole_at (YieldsFirst children_left) e _ c.into_iter-above-iterator.ensures.into_iter_gives _ _ so_far _
    c.in-None.ensures.steps in
    let below : List Address → List Address = flat_map (λ x. descendants x r) in
    let two : length c.args.cell.digits + 2 ≤ r =
    omega (
      arith,
      c.requires.not_coarser,
      c.resolution.ensures.number,
      c.if-levels-eq0.false,
      c.if-levels-eq1.false,
    ) in
    let list : descendants c.args.cell r ≡ below ks =
    descendants-between c.args.cell (r - 2) r (omega (arith, two)) (omega (arith, two))
    ∙ ap below (sym c.children_at-above-items.ensures.list ∙ is) in
    c.loop-above.invariant.put before first size put ∙ ap (λ l. laid_over (indexes (before ++ l)) first) (sym list)
