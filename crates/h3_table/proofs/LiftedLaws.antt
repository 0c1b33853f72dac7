-- Reversal and corner of steps.
use Rattle.std.proofs.Common.{◌≡◌, ◌<◌, ◌+◌, ◌-◌, ◌%◌, ℕ, List, map, Option, Some, None, refl, arith, sym, ap, ◌∙◌, subst}
use Rattle.std.specs.Int.Digits.{AllBelowBase}
use Rattle.h3_directions.specs.declared.direction.Direction.{Direction}
use Rattle.h3_directions.specs.Direction.{digit_turned, opposite, turned, turned_once}
use Rattle.h3_lattice.specs.Laws.{DigitTurnsAdd, NoTurnsKeepDigits, SixDigitTurnsAreNone, SumsCloseTriangles, SumsReverse, SumsTurn, Triangle, all_inside, z_across, x_across, y_across, all_across}
use Rattle.h3_table.specs.Lifted.{CornersLift, Reached, Reaches, ReversalsLift, across, led_by, reached}
use Rattle.h3_table.specs.Links.{IsHexagonBase, IsSound, Links}
use Rattle.h3_lattice.specs.Moved.{IsSum}

-- the laws of turns and sums that these rest on
module _ (add : DigitTurnsAdd) (six : SixDigitTurnsAreNone) (kept : NoTurnsKeepDigits) (reverse : SumsReverse)
    (turn : SumsTurn) (triangles : SumsCloseTriangles) where
  -- turned by m after n, digits are turned t times
  digits_on : (m n t : ℕ) (ds : List ℕ) → (m + n) % 6 ≡ t % 6
      → map (digit_turned m) (map (digit_turned n) ds) ≡ map (digit_turned t) ds
  digits_on m n t ds e =
      add m n ds ∙ sym (six (m + n) ds) ∙ ap (λ k. map (digit_turned k) ds) e ∙ six t ds

  digits_back : (n : ℕ) (ds : List ℕ) → n < 6 → AllBelowBase 7 ds
      → map (digit_turned ((6 - n) % 6)) (map (digit_turned n) ds) ≡ ds
  digits_back n ds h small =
      let e : ((6 - n) % 6 + n) % 6 ≡ 0 % 6 = omega arith in digits_on ((6 - n) % 6) n 0 ds e ∙ kept ds small

  around : (n t : ℕ) → n < 6 → t < 6 → ((t + 6 - n) % 6 + n) % 6 ≡ t % 6
  around n t h k = omega arith

  -- across a link that is known
  across_is : (l : ℕ × ℕ) (c n : ℕ) (es fs : List ℕ) → l ≡ (c, n) → map (digit_turned n) es ≡ fs
      → reached c n fs ≡ across l es
  across_is l c n es fs e f = sym (ap (λ (l : ℕ × ℕ). across l es) e ∙ ap (reached c n) f)

  module _ (link : Links) (sound : IsSound link) (b : ℕ) (hexagon : IsHexagonBase b) where
    reversed : (ds : List ℕ) (d : Direction) (u : Option Direction) (es : List ℕ) → AllBelowBase 7 ds → IsSum ds d u es
        → IsHexagonBase (led_by link b u es).base
        → Reaches link (led_by link b u es).base (led_by link b u es).digits
        (turned (led_by link b u es).turns (opposite d)) (reached b ((6 - (led_by link b u es).turns) % 6) ds)
    reversed ds d None es small sum h = record {
      out = None;
      list = ds;
      sum = reverse ds d None es small sum;
      is = refl;
    }
    reversed ds d (Some u) es small sum h =
        let n = (link b u).1 in
        let few : n < 6 = (sound.within b u hexagon).1 in
        record {
          out = Some (turned n (opposite u));
          list = map (digit_turned n) ds;
          sum = turn n es (opposite d) (Some (opposite u)) ds (reverse ds d (Some u) es small sum);
          is =
              across_is (link (link b u).0 (turned n (opposite u))) b ((6 - n) % 6) (map (digit_turned n) ds) ds
              (sound.reversal b u hexagon h) (digits_back n ds few small);
        }

    by_form : (d : Direction) (u v out : Option Direction) → Triangle u out v → (es fs : List ℕ)
        → IsSum es (turned 2 d) out fs
        → IsHexagonBase (led_by link b u es).base → IsHexagonBase (led_by link b v fs).base
        → Reaches link (led_by link b u es).base (led_by link b u es).digits
        (turned (led_by link b u es).turns (turned 2 d))
        (reached (led_by link b v fs).base (((led_by link b v fs).turns + 6 - (led_by link b u es).turns) % 6)
        (led_by link b v fs).digits)
    by_form d u v out all_inside es fs third h k =
        record { out = None; list = fs; sum = third; is = refl }
    by_form d u v out (z_across e) es fs third h k =
        let few : (link b e).1 < 6 = (sound.within b e hexagon).1 in
        let turns : ((link b e).1 + 6 - 0) % 6 ≡ (link b e).1 = omega arith in
        record {
          out = Some e;
          list = fs;
          sum = third;
          is = ap (λ n. reached (link b e).0 n (map (digit_turned (link b e).1) fs)) turns;
        }
    by_form d u v out (x_across e) es fs third h k =
        let n = (link b e).1 in
        let few : n < 6 = (sound.within b e hexagon).1 in
        let turns : (n + 6 - n) % 6 ≡ 0 = omega arith in
        record {
          out = None;
          list = map (digit_turned n) fs;
          sum = turn n es (turned 2 d) None fs third;
          is = ap (λ t. reached (link b e).0 t (map (digit_turned n) fs)) turns;
        }
    by_form d u v out (y_across e) es fs third h k =
        let n = (link b e).1 in
        let few : n < 6 = (sound.within b e hexagon).1 in
        record {
          out = Some (turned n (opposite e));
          list = map (digit_turned n) fs;
          sum = turn n es (turned 2 d) (Some (opposite e)) fs third;
          is =
              across_is (link (link b e).0 (turned n (opposite e))) b ((6 - n) % 6) (map (digit_turned n) fs) fs
              (sound.reversal b e hexagon h) (digits_back n fs few third.digits);
        }
    by_form d u v out (all_across e) es fs third h k =
        let n = (link b e).1 in
        let t = (link b (turned_once e)).1 in
        let few : n < 6 = (sound.within b e hexagon).1 in
        let few_t : t < 6 = (sound.within b (turned_once e) hexagon).1 in
        record {
          out = Some (turned n (turned 2 e));
          list = map (digit_turned n) fs;
          sum = turn n es (turned 2 d) (Some (turned 2 e)) fs third;
          is =
              across_is (link (link b e).0 (turned n (turned 2 e))) (link b (turned_once e)).0 ((t + 6 - n) % 6)
              (map (digit_turned n) fs) (map (digit_turned t) fs) (sound.corner b e hexagon h k)
              (digits_on ((t + 6 - n) % 6) n t fs (around n t few few_t));
        }

  pub reversals_lift : ReversalsLift
  reversals_lift link sound b ds d r hexagon small x h =
      subst
      (λ (r : Reached).
      Reaches link r.base r.digits (turned r.turns (opposite d)) (reached b ((6 - r.turns) % 6) ds))
      (sym x.is)
      (reversed link sound b hexagon ds d x.out x.list small x.sum
      (subst (λ (r : Reached). IsHexagonBase r.base) x.is h))

  pub corners_lift : CornersLift
  corners_lift link sound b ds d r s hexagon x y h k =
      let tri = triangles ds d x.out y.out x.list y.list x.sum y.sum in
      let there = by_form link sound b hexagon d x.out y.out tri.out tri.form x.list y.list tri.third
      (subst (λ (r : Reached). IsHexagonBase r.base) x.is h) (subst (λ (s : Reached). IsHexagonBase s.base) y.is k) in
      subst
      (λ (r : Reached).
      Reaches link r.base r.digits (turned r.turns (turned 2 d))
      (reached s.base ((s.turns + 6 - r.turns) % 6) s.digits))
      (sym x.is)
      (subst (λ (s : Reached).
      Reaches link (led_by link b x.out x.list).base (led_by link b x.out x.list).digits
      (turned (led_by link b x.out x.list).turns (turned 2 d))
      (reached s.base ((s.turns + 6 - (led_by link b x.out x.list).turns) % 6) s.digits)) (sym y.is) there)
