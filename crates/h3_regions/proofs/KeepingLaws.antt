-- The pass that keeps the coarsest of cells in order.
use Rattle.std.proofs.Common.{ℕ, ◌≡◌, ◌+◌, ◌-◌, ◌^◌, ◌<◌, ◌≤◌, List, length, take, drop, set, refl, All, arith, ◌∙◌, sym, ap, subst, inl, inr, get_or}
use Rattle.std.proofs.Math.Nat.{one-le-pow}
use Rattle.std.proofs.lemmas.Bool.{cases_lt}
use Rattle.std.proofs.lemmas.List.{get_or-set_same, get_or-set_other, get_or-drop, get_or-take, length-drop, length-take}
use Rattle.std.proofs.Math.ListN.{length-set}
use Rattle.h3_index.specs.Cell.{Address, IsCell, resolution}
use Rattle.h3_index.specs.Descendants.{IsAncestor}
use Rattle.h3_tree.specs.Laws.{CellsFormTrees}
use Rattle.h3_tree.specs.PostOrder.{post_order_key as key, CellsFormIntervals}
use Rattle.h3_set.specs.Coverage.{Overlap}
use Rattle.h3_regions.specs.Unions.{IsCoarsest}
use Rattle.h3_set.specs.Order.{IsInOrder}
use Rattle.h3_regions.proofs.IntervalLaws.{before, within}
use Rattle.h3_regions.proofs.ListLaws.{any_default, contains_at, contains_front, front_at}

-- the cells that stay do not stand below the one that comes
pub staying_above : (intervals : CellsFormIntervals) (kept : List Address) (cell x : Address) (n : ℕ) → All IsCell kept
    → IsInOrder kept → IsCell cell → 0 < n → n ≤ length kept → x ≡ get_or kept (n - 1) x
    → key x + 8 ^ (15 - resolution cell) ≤ key cell → All (λ a. ¬ IsAncestor cell a) (take n kept)
staying_above intervals kept cell x n valid order here pos room is far k d lt above =
    let low : k < n = omega (arith, lt, length-take n kept) in
    let inside_it : k < length kept = omega (arith, low, room) in
    let a = get_or kept k d in
    let back : n - 1 < length kept = omega (arith, pos, room) in
    let last : get_or kept (n - 1) d ≡ x = any_default kept (n - 1) d x back ∙ sym is in
    let at : get_or (take n kept) k d ≡ get_or kept k d = get_or-take n kept k d low in
    let w = within intervals cell (get_or kept k d) here (valid k d inside_it) (subst (IsAncestor cell) at above) in
    elim (cases_lt k (n - 1)) [
      | inl less ↦ let le = rw last at (order k (n - 1) d less back) in omega (arith, w.1, le, far)
      | inr not ↦
          let e : k ≡ n - 1 = omega (arith, low, not) in
          let same : get_or kept k d ≡ x = ap (λ j. get_or kept j d) e ∙ last in
          let up = rw same at w.1 in omega (arith, up, far)
    ]

-- of the first i cells the coarsest are the first w now
pub record IsKeeping (all now : List Address) (i w : ℕ) : Type 0 where
  pub size : length now ≡ length all
  pub inside : i ≤ length all
  pub behind : w ≤ i
  pub rest : (j : ℕ) (d : Address) → i ≤ j → j < length all → get_or now j d ≡ get_or all j d
  pub chosen : (k : ℕ) (d : Address) → k < w → (j : ℕ) × (j < i) × (get_or now k d ≡ get_or all j d)
  pub above : (j : ℕ) (d : Address) → j < i → (k : ℕ) × (k < w) × IsAncestor (get_or now k d) (get_or all j d)
  pub rises : (a b : ℕ) (d : Address) → a < b → b < w → key (get_or now a d) < key (get_or now b d)
  pub apart : (a b : ℕ) (d : Address) → a < b → b < w → ¬ Overlap (get_or now a d) (get_or now b d)

module _ (tree : CellsFormTrees) (intervals : CellsFormIntervals) (all : List Address) (valid : All IsCell all)
    (order : IsInOrder all) where
  module _ (now : List Address) (i w : ℕ) (inv : IsKeeping all now i w) where
    kept_valid : (k : ℕ) (d : Address) → k < w → IsCell (get_or now k d)
    kept_valid k d lt =
        let c = inv.chosen k d lt in subst IsCell (sym c.2) (valid c.0 d (omega (arith, c.1, inv.inside)))

    at_front : (k : ℕ) (d : Address) → k < w → get_or (take w now) k d ≡ get_or now k d
    at_front k d lt = get_or-take w now k d lt

    room : w ≤ length now
    room = omega (arith, inv.size, inv.inside, inv.behind)

    front_size : length (take w now) ≡ w
    front_size = omega (arith, length-take w now, room)

    pub front_valid : All IsCell (take w now)
    front_valid k d lt =
        let l : k < w = omega (arith, lt, front_size) in subst IsCell (sym (at_front k d l)) (kept_valid k d l)

    pub front_order : IsInOrder (take w now)
    front_order a b d lt lb =
        let lw : b < w = omega (arith, lb, front_size) in
        let up = inv.rises a b d lt lw in
        rw (at_front a d (omega (arith, lt, lw)), at_front b d lw) (omega (arith, up))

    module _ (cell : Address) (lt : i < length now) (is : cell ≡ get_or now i cell) where
      here : (d : Address) → get_or all i d ≡ cell
      here d =
          let l : i < length all = omega (arith, lt, inv.size) in
          any_default all i d cell l ∙ sym (inv.rest i cell (omega arith) l) ∙ sym is

      cell_valid : IsCell cell
      cell_valid = subst IsCell (here cell) (valid i cell (omega (arith, lt, inv.size)))

      low : (k : ℕ) (d : Address) → k < w → key (get_or now k d) ≤ key cell
      low k d l =
          let c = inv.chosen k d l in
          rw c.2 (rw (here d) at (order c.0 i d c.1 (omega (arith, lt, inv.size))))

      pub front_low : All (λ a. key a ≤ key cell) (take w now)
      front_low k d l = let lw : k < w = omega (arith, l, front_size) in rw (at_front k d lw) (low k d lw)

      module _ (s : ℕ) (fewer : s ≤ length (take w now)) (stay : All (λ a. ¬ IsAncestor cell a) (take s (take w now)))
          (below : All (IsAncestor cell) (drop s (take w now))) where
        le : s ≤ w
        le = omega (arith, fewer, front_size)

        stays : (k : ℕ) (d : Address) → k < s → ¬ IsAncestor cell (get_or now k d)
        stays k d l =
            let lw : k < w = omega (arith, l, le) in
            let e : get_or (take s (take w now)) k d ≡ get_or now k d =
            get_or-take s (take w now) k d l ∙ at_front k d lw in
            subst (λ a. ¬ IsAncestor cell a) e (stay k d (omega (arith, l, length-take s (take w now), fewer)))

        goes : (k : ℕ) (d : Address) → s ≤ k → k < w → IsAncestor cell (get_or now k d)
        goes k d l lw =
            let back : s + (k - s) ≡ k = omega (arith, l) in
            let e : get_or (drop s (take w now)) (k - s) d ≡ get_or now k d =
            get_or-drop s (take w now) (k - s) d ∙ ap (λ j. get_or (take w now) j d) back ∙ at_front k d lw in
            subst (IsAncestor cell) e (below (k - s) d (omega (arith, l, lw, length-drop s (take w now), front_size)))

        inside_now : s < length now
        inside_now = omega (arith, le, inv.behind, lt)

        first : (k : ℕ) (d : Address) → k < s → get_or (set now s cell) k d ≡ get_or now k d
        first k d l = get_or-set_other now s k cell d (omega (arith, l))

        last : (d : Address) → get_or (set now s cell) s d ≡ cell
        last d = get_or-set_same now s cell d inside_now

        far : (k : ℕ) (d : Address) → k < s → key (get_or now k d) + 8 ^ (15 - resolution cell) ≤ key cell
        far k d l =
            let lw : k < w = omega (arith, l, le) in
            before intervals cell (get_or now k d) cell_valid (kept_valid k d lw) (low k d lw) (stays k d l)

        some : 1 ≤ 8 ^ (15 - resolution cell)
        some = one-le-pow (15 - resolution cell) 8 (omega arith)

        chosen : (k : ℕ) (d : Address) → k < s + 1
            → (j : ℕ) × (j < i + 1) × (get_or (set now s cell) k d ≡ get_or all j d)
        chosen k d l =
            elim (cases_lt k s) [
              | inl less ↦
                  let c = inv.chosen k d (omega (arith, less, le)) in (c.0, omega (arith, c.1), first k d less ∙ c.2)
              | inr not ↦
                  let e : k ≡ s = omega (arith, l, not) in
                  (i, omega arith, ap (λ j. get_or (set now s cell) j d) e ∙ last d ∙ sym (here d))
            ]

        above : (j : ℕ) (d : Address) → j < i + 1
            → (k : ℕ) × (k < s + 1) × IsAncestor (get_or (set now s cell) k d) (get_or all j d)
        above j d l =
            elim (cases_lt j i) [
              | inl less ↦
                  let a = inv.above j d less in
                  elim (cases_lt a.0 s) [
                    | inl stay_it ↦ (
                      a.0,
                      omega (arith, stay_it),
                      subst (λ v. IsAncestor v (get_or all j d)) (sym (first a.0 d stay_it)) a.2,
                    )
                    | inr go ↦ (
                      s,
                      omega arith,
                      subst (λ v. IsAncestor v (get_or all j d)) (sym (last d))
                          (tree.through cell (get_or now a.0 d) (get_or all j d) (goes a.0 d go a.1) a.2),
                    )
                  ]
              | inr not ↦
                  let e : i ≡ j = omega (arith, l, not) in (
                    s,
                    omega arith,
                    subst (λ v. IsAncestor v (get_or all j d)) (sym (last d))
                        (subst (IsAncestor cell) (sym (here d) ∙ ap (λ k. get_or all k d) e) (tree.own cell)),
                  )
            ]

        rises : (a b : ℕ) (d : Address) → a < b → b < s + 1
            → key (get_or (set now s cell) a d) < key (get_or (set now s cell) b d)
        rises a b d l lb =
            let la : a < s = omega (arith, l, lb) in
            elim (cases_lt b s) [
              | inl less ↦ rw (first a d la, first b d less) (inv.rises a b d l (omega (arith, less, le)))
              | inr not ↦
                  let e : b ≡ s = omega (arith, lb, not) in
                  let f = far a d la in rw (first a d la, e, last d) (omega (arith, f, some))
            ]

        apart_last : (a : ℕ) (d : Address) → a < s → ¬ Overlap (get_or now a d) cell
        apart_last a d la o =
            let lw : a < w = omega (arith, la, le) in
            let f = far a d la in
            elim o [
              | inl over ↦
                  let v = within intervals (get_or now a d) cell (kept_valid a d lw) cell_valid over in
                  omega (arith, v.0, f, some)
              | inr under ↦ stays a d la under
            ]

        apart : (a b : ℕ) (d : Address) → a < b → b < s + 1
            → ¬ Overlap (get_or (set now s cell) a d) (get_or (set now s cell) b d)
        apart a b d l lb =
            let la : a < s = omega (arith, l, lb) in
            elim (cases_lt b s) [
              | inl less ↦ rw (first a d la, first b d less) (inv.apart a b d l (omega (arith, less, le)))
              | inr not ↦ let e : b ≡ s = omega (arith, lb, not) in rw (first a d la, e, last d) (apart_last a d la)
            ]

        pub keep : IsKeeping all (set now s cell) (i + 1) (s + 1)
        keep =
            record {
              size = length-set now s cell ∙ inv.size;
              inside = omega (arith, lt, inv.size);
              behind = omega (arith, le, inv.behind);
              rest = λ j d more l.
                  get_or-set_other now s j cell d (omega (arith, more, le, inv.behind))
                  ∙ inv.rest j d (omega (arith, more)) l;
              chosen = chosen;
              above = above;
              rises = rises;
              apart = apart;
            }

  module _ (now : List Address) (w : ℕ) (inv : IsKeeping all now (length all) w) where
    pub coarsest : IsCoarsest (take w now) all
    coarsest =
        record {
          chosen = λ x m.
              (let f = front_at now w x x m in
              let c = inv.chosen f.0 x f.1 in contains_at all c.0 x x c.1 (sym c.2 ∙ f.3));
          all = λ x m. (let a = inv.above m.0 x m.1 in
              record {
                by = get_or now a.0 x;
                member =
                    contains_front now w a.0 x (get_or now a.0 x) a.1 (omega (arith, a.1, inv.size, inv.behind)) refl;
                above = subst (IsAncestor (get_or now a.0 x)) m.2 a.2;
              });
          apart = λ a b d l lb.
              (let lw : b < w = omega (arith, lb, length-take w now) in
              rw (get_or-take w now a d (omega (arith, l, lw)), get_or-take w now b d lw) (inv.apart a b d l lw));
        }
