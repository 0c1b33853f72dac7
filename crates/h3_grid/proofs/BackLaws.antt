-- Steps back, apart and around a triangle.
use Rattle.std.proofs.Common.{ℕ, ℤ, zero, suc, pos, negsuc, ◌≡◌, ◌≢◌, ◌<◌, ◌+◌, ◌-◌, ◌%◌, List, length, map, false, Option, Some, None, refl, arith, sym, ap, ◌∙◌, subst}
use Rattle.std.specs.Int.Digits.{AllBelowBase}
use Rattle.h3_index.specs.Cell.{Address, is_pentagon_base}
use Rattle.h3_directions.specs.declared.direction.Direction.{Direction}
use Rattle.h3_directions.specs.declared.direction.Direction.TheVariants.{K, J, JK, I, IK, IJ}
use Rattle.h3_directions.specs.Eisenstein.{Eisenstein, sum_of}
use Rattle.h3_directions.specs.Direction.{digit_turned, opposite, turned, turned_once, unit_of, value_of}
use Rattle.h3_lattice.specs.Digits.{cell_of}
use Rattle.h3_lattice.specs.Expansion.{place, scaled}
use Rattle.h3_lattice.specs.Laws.{OppositesAreThreeTurns}
use Rattle.h3_table.specs.Lifted.{CornersLift, Reached, Reaches, ReversalsLift, across, led_by, reached}
use Rattle.h3_table.specs.Links.{IsHexagonBase, IsSound, Links}
use Rattle.h3_lattice.specs.Moved.{IsSum}
use Rattle.h3_grid.specs.Laws.{IsState, OverSoundLinks, StepsCloseTriangles, StepsLeave, StepsDiffer, StepsReachStates, StepsReverse}
use Rattle.h3_grid.specs.Steps.{Leads, State, crossed, led_to, state, step_of}
use Rattle.h3_grid.proofs.DiskLaws.{unit_moves}
use Rattle.h3_grid.proofs.InsideLaws.{SumLaws, TurnLaws, crossed_is, digits_back, leads, sum_inside, turned_one}
use Rattle.h3_grid.proofs.LinearLaws.{points}
use Rattle.h3_grid.proofs.SearchLaws.{step-hexagon}

pub record Lattice : Type 0 where
  pub turns : TurnLaws
  pub opposites : OppositesAreThreeTurns
  pub sums : SumLaws
  pub back : ReversalsLift
  pub corners : CornersLift

-- ---- turns

swapped_sum : (m n : ℕ) → m + n ≡ n + m
swapped_sum m n = omega arith

module _ (w : Lattice) where
  commute : (m n : ℕ) (d : Direction) → turned m (turned n d) ≡ turned n (turned m d)
  commute m n d = w.turns.directions m n d ∙ ap (λ k. turned k d) (swapped_sum m n) ∙ sym (w.turns.directions n m d)

  turned-opposite : (n : ℕ) (d : Direction) → turned n (opposite d) ≡ opposite (turned n d)
  turned-opposite n d = ap (turned n) (w.opposites d) ∙ commute n 3 d ∙ sym (w.opposites (turned n d))

  -- in the frame of the base cell across
  in_frame : (rot n : ℕ) (d : Direction) → turned ((rot + n) % 6) d ≡ turned n (turned rot d)
  in_frame rot n d =
      w.turns.six (rot + n) d ∙ ap (λ k. turned k d) (swapped_sum rot n) ∙ sym (w.turns.directions n rot d)

-- ---- one step

pub crossed_over : (l : ℕ × ℕ) (rot : ℕ) (es : List ℕ) → is_pentagon_base l.0 ≡ false
    → crossed l rot es ≡ Some (state (cell_of l.0 (map (digit_turned l.1) es)) ((rot + l.1) % 6))
crossed_over l rot es h = rw h refl

-- the two ways of a step
data Way (link : Links) (x : State) (d : Direction) : State → Type 0 where
  stays_in : (es : List ℕ) → IsSum x.cell.digits (turned x.rotation d) None es
      → Way link x d (state (cell_of x.cell.base es) x.rotation)
  goes_over : (u : Direction) (es : List ℕ) → IsSum x.cell.digits (turned x.rotation d) (Some u) es
      → is_pentagon_base (link x.cell.base u).0 ≡ false
      → Way link x d (state (cell_of (link x.cell.base u).0 (map (digit_turned (link x.cell.base u).1) es))
      ((x.rotation + (link x.cell.base u).1) % 6))

way : (w : Lattice) (link : Links) (x y : State) (d : Direction) → IsState x → step_of link x d ≡ Some y
    → Way link x d y
way w link x y d st e = by_out l.out l.list l.sum l.is
  where
    l : Leads link x d (Some y)
    l = leads w.sums link x y d st.hexagon.1 e

    by_out : (u : Option Direction) (es : List ℕ) → IsSum x.cell.digits (turned x.rotation d) u es
        → Some y ≡ led_to link x u es → Way link x d y
    by_out None es sum is =
        let at : y ≡ state (cell_of x.cell.base es) x.rotation = cc in subst (Way link x d) (sym at) (stays_in es sum)
    by_out (Some u) es sum is =
        let c = crossed_is (link x.cell.base u) x.rotation es y is in
        subst (Way link x d) (sym c.is) (goes_over u es sum c.hexagon)

back_rotation : (rot n : ℕ) → rot < 6 → n < 6 → ((rot + n) % 6 + (6 - n) % 6) % 6 ≡ rot
back_rotation rot n h k = omega arith

corner_rotation : (rot n t : ℕ) → rot < 6 → n < 6 → t < 6 → ((rot + n) % 6 + (t + 6 - n) % 6) % 6 ≡ (rot + t) % 6
corner_rotation rot n t h k l = omega arith

no_turns : (rot : ℕ) → rot < 6 → rot ≡ (rot + 0) % 6
no_turns rot h = omega arith

-- where a step leads: a base cell, how often digits are turned on the way into it, and the digits there
record Goes (link : Links) (x : State) (d : Direction) (y : State) : Type 0 where
  to : Reached
  reaches : Reaches link x.cell.base x.cell.digits (turned x.rotation d) to
  hexagon : IsHexagonBase to.base
  few : to.turns < 6
  is : y ≡ state (cell_of to.base to.digits) ((x.rotation + to.turns) % 6)

-- the step of a state to where a sum reaches
arrives : (w : Lattice) (link : Links) (y : State) (d e : Direction) (to : Reached)
    → is_pentagon_base y.cell.base ≡ false → y.rotation < 6 → Reaches link y.cell.base y.cell.digits e to
    → e ≡ turned y.rotation d
    → is_pentagon_base to.base ≡ false
    → step_of link y d ≡ Some (state (cell_of to.base to.digits) ((y.rotation + to.turns) % 6))
arrives w link y d e to hexagon few r same h = by_out r.out r.list r.sum r.is
  where
    Led : Reached → Type 0
    Led t = step_of link y d ≡ Some (state (cell_of t.base t.digits) ((y.rotation + t.turns) % 6))

    by_out : (u : Option Direction) (es : List ℕ) → IsSum y.cell.digits e u es → to ≡ led_by link y.cell.base u es
        → Led to
    by_out None es sum is =
        subst Led (sym is)
        (step-hexagon w.sums.unique link y d None es hexagon (subst (λ p. IsSum y.cell.digits p None es) same sum)
        ∙ ap (λ n. Some (state (cell_of y.cell.base es) n)) (no_turns y.rotation few))
    by_out (Some u) es sum is =
        subst Led (sym is)
        (step-hexagon w.sums.unique link y d (Some u) es hexagon
        (subst (λ p. IsSum y.cell.digits p (Some u) es) same sum)
        ∙ crossed_over (link y.cell.base u) y.rotation es
        (subst (λ (t : Reached). is_pentagon_base t.base ≡ false) is h))

module _ (w : Lattice) (link : Links) (sound : IsSound link) (x : State) (st : IsState x) where
  is_state : (d : Direction) (y : State) → Way link x d y → IsState y
  is_state d y (stays_in es sum) = record { hexagon = st.hexagon; digits = sum.digits; few = st.few }
  is_state d y (goes_over u es sum h) =
      let n = (link x.cell.base u).1 in
      let over = w.sums.turn n x.cell.digits (turned x.rotation d) (Some u) es sum in
      record { hexagon = ((sound.within x.cell.base u st.hexagon).0, h); digits = over.digits; few = omega arith }

  goes : (d : Direction) (y : State) → Way link x d y → Goes link x d y
  goes d y (stays_in es sum) = record {
    to = reached x.cell.base 0 es;
    reaches = record { out = None; list = es; sum = sum; is = refl };
    hexagon = st.hexagon;
    few = omega arith;
    is = ap (state (cell_of x.cell.base es)) (no_turns x.rotation st.few);
  }
  goes d y (goes_over u es sum h) = record {
    to = across (link x.cell.base u) es;
    reaches = record { out = Some u; list = es; sum = sum; is = refl };
    hexagon = ((sound.within x.cell.base u st.hexagon).0, h);
    few = (sound.within x.cell.base u st.hexagon).1;
    is = refl;
  }

  reversed : (d : Direction) (y : State) → Goes link x d y → step_of link y (opposite d) ≡ Some x
  reversed d y g =
      let rot = x.rotation in
      let n = g.to.turns in
      let there = state (cell_of g.to.base g.to.digits) ((rot + n) % 6) in
      let back =
      w.back link sound x.cell.base x.cell.digits (turned rot d) g.to st.hexagon st.digits g.reaches g.hexagon in
      let frame : turned n (opposite (turned rot d)) ≡ turned ((rot + n) % 6) (opposite d) =
      sym (in_frame w rot n (opposite d) ∙ ap (turned n) (turned-opposite w rot d)) in
      let few : (rot + n) % 6 < 6 = omega arith in
      ap (λ s. step_of link s (opposite d)) g.is
      ∙ arrives w link there (opposite d) (turned n (opposite (turned rot d)))
      (reached x.cell.base ((6 - n) % 6) x.cell.digits) g.hexagon.1 few back frame st.hexagon.1
      ∙ ap (λ r. Some (state x.cell r)) (back_rotation rot n st.few g.few)

pub steps_reach : Lattice → OverSoundLinks StepsReachStates
steps_reach w link sound x y d st e = is_state w link sound x st d y (way w link x y d st e)

pub steps_reverse : Lattice → OverSoundLinks StepsReverse
steps_reverse w link sound x y d st e =
    reversed w link sound x st d y (goes w link sound x st d y (way w link x y d st e))

-- ---- different steps

-- the direction of a unit
direction_at : Eisenstein → Direction
direction_at z = by_parts z.a z.b
  where
    by_parts : ℤ → ℤ → Direction
    by_parts (pos zero) (pos n) = J
    by_parts (pos zero) (negsuc n) = IK
    by_parts (pos (suc m)) (pos zero) = I
    by_parts (pos (suc m)) (pos (suc n)) = IJ
    by_parts (pos (suc m)) (negsuc n) = I
    by_parts (negsuc m) (pos n) = JK
    by_parts (negsuc m) (negsuc n) = K

direction_at-unit : (d : Direction) → direction_at (unit_of d) ≡ d
unfolding direction_at
direction_at-unit K = refl
direction_at-unit J = refl
direction_at-unit JK = refl
direction_at-unit I = refl
direction_at-unit IK = refl
direction_at-unit IJ = refl

unit_one : (d e : Direction) → unit_of d ≡ unit_of e → d ≡ e
unit_one d e h = sym (direction_at-unit d) ∙ ap direction_at h ∙ direction_at-unit e

pub add_one : (p y z : Eisenstein) → sum_of p y ≡ sum_of p z → y ≡ z
add_one p y z e = omega (arith, points)

-- the digits of a sum determine the direction
sum_one : (ds es fs : List ℕ) (d e : Direction) (u v : Option Direction) → IsSum ds d u es → IsSum ds e v fs → u ≡ v
    → es ≡ fs → d ≡ e
sum_one ds es fs d e u v x y p q =
    unit_one d e (add_one (place ds) (unit_of d) (unit_of e)
    (x.sum ∙ ap (λ t. sum_of (scaled 0 (length ds) (value_of t)) (place es)) p
    ∙ ap (λ l. sum_of (scaled 0 (length ds) (value_of v)) (place l)) q ∙ sym y.sum))

module _ (w : Lattice) (link : Links) (sound : IsSound link) (x : State) (st : IsState x) where
  -- turned by as much, lists are the same only if they were
  digits_one : (n : ℕ) (ds es : List ℕ) → n < 6 → AllBelowBase 7 ds → AllBelowBase 7 es
      → map (digit_turned n) ds ≡ map (digit_turned n) es → ds ≡ es
  digits_one n ds es h p q e =
      sym (digits_back w.turns n ds h p) ∙ ap (λ l. map (digit_turned ((6 - n) % 6)) l) e ∙ digits_back w.turns n es h q

  parted : (d e : Direction) (y z : State) → Way link x d y → Way link x e z → y.cell ≡ z.cell → d ≡ e
  parted d e y z (stays_in es sum) (stays_in fs sum2) same =
      let digits : es ≡ fs = ap (λ (a : Address). a.digits) same in
      turned_one w.turns x.rotation d e st.few
      (sum_one x.cell.digits es fs (turned x.rotation d) (turned x.rotation e) None None sum sum2 refl digits)
  parted d e y z (stays_in es sum) (goes_over v fs sum2 h) same =
      absurd (sound.away x.cell.base v st.hexagon (sym (ap (λ (a : Address). a.base) same)))
  parted d e y z (goes_over u es sum h) (stays_in fs sum2) same =
      absurd (sound.away x.cell.base u st.hexagon (ap (λ (a : Address). a.base) same))
  parted d e y z (goes_over u es sum h) (goes_over v fs sum2 k) same =
      let one : u ≡ v = sound.apart x.cell.base u v st.hexagon (ap (λ (a : Address). a.base) same) in
      let turned_alike : map (digit_turned (link x.cell.base v).1) fs ≡ map (digit_turned (link x.cell.base u).1) fs =
      ap (λ t. map (digit_turned (link x.cell.base t).1) fs) (sym one) in
      let digits : es ≡ fs =
      digits_one (link x.cell.base u).1 es fs (sound.within x.cell.base u st.hexagon).1 sum.digits sum2.digits
      (ap (λ (a : Address). a.digits) same ∙ turned_alike) in
      turned_one w.turns x.rotation d e st.few (sum_one x.cell.digits es fs (turned x.rotation d) (turned x.rotation e)
      (Some u) (Some v) sum sum2 (ap (λ t. Some t) one) digits)

  moved : (d : Direction) (y : State) → Way link x d y → y.cell ≢ x.cell
  moved d y (stays_in es sum) same =
      let digits : es ≡ x.cell.digits = ap (λ (a : Address). a.digits) same in
      unit_moves (place x.cell.digits) (turned x.rotation d)
      (sym (ap place digits) ∙ sum_inside x.cell.digits es (turned x.rotation d) sum)
  moved d y (goes_over u es sum h) same = sound.away x.cell.base u st.hexagon (ap (λ (a : Address). a.base) same)

pub steps_differ : Lattice → OverSoundLinks StepsDiffer
steps_differ w link sound x y z d e st p q same =
    parted w link sound x st d e y z (way w link x y d st p) (way w link x z e st q) same

pub steps_leave : Lattice → OverSoundLinks StepsLeave
steps_leave w link sound x y d st e same = moved w link sound x st d y (way w link x y d st e) same

-- ---- triangles

pub steps_close : Lattice → OverSoundLinks StepsCloseTriangles
steps_close w link sound x y z d st p q =
    let b = x.cell.base in
    let rot = x.rotation in
    let g = goes w link sound x st d y (way w link x y d st p) in
    let h = goes w link sound x st (turned_once d) z (way w link x z (turned_once d) st q) in
    let n = g.to.turns in
    let t = h.to.turns in
    let there = state (cell_of g.to.base g.to.digits) ((rot + n) % 6) in
    let second : Reaches link b x.cell.digits (turned_once (turned rot d)) h.to =
    subst (λ r. Reaches link b x.cell.digits r h.to) (commute w rot 1 d) h.reaches in
    let corner =
    w.corners link sound b x.cell.digits (turned rot d) g.to h.to st.hexagon g.reaches second g.hexagon h.hexagon in
    let frame : turned n (turned 2 (turned rot d)) ≡ turned ((rot + n) % 6) (turned 2 d) =
    sym (in_frame w rot n (turned 2 d) ∙ ap (turned n) (commute w rot 2 d)) in
    let few : (rot + n) % 6 < 6 = omega arith in
    ap (λ s. step_of link s (turned 2 d)) g.is
    ∙ arrives w link there (turned 2 d) (turned n (turned 2 (turned rot d)))
    (reached h.to.base ((t + 6 - n) % 6) h.to.digits) g.hexagon.1 few corner frame h.hexagon.1
    ∙ ap (λ r. Some (state (cell_of h.to.base h.to.digits) r)) (corner_rotation rot n t st.few g.few h.few)
    ∙ ap (λ r. Some r) (sym h.is)
