-- Positions level by level: under a cell and under its child, on the way up and on the way down.
use Rattle.std.specs.Int.Digits.{AllBelowBase, number_from_digits}
use Rattle.std.proofs.Common.{ℕ, ◌≡◌, ◌≢◌, ◌+◌, ◌-◌, ◌*◌, ◌/◌, ◌%◌, ◌^◌, ◌<◌, ◌≤◌, ◌==◌, zero, suc, List, [], ◌∷◌, ◌++◌, length, take, drop, Bool, true, false, refl, slice_get, Some, get_or, length-append, arith, ◌∙◌, sym, ap, subst, inl, inr}
use Rattle.std.proofs.Math.Nat.{pow-suc, pow-le-pow_right}
use Rattle.std.proofs.Math.Seq.{take-length}
use Rattle.std.proofs.lemmas.Bool.{cases_Bool}
use Rattle.std.proofs.lemmas.Bool.Decides.{nat_tests}
use Rattle.std.proofs.lemmas.Int.Digits.{number_lt, number_more}
use Rattle.std.proofs.lemmas.List.{get_or-drop, get_or-take, length-drop, length-take-le, take-take, take_all}
use Rattle.std.proofs.lemmas.List.Elements.{Contains-get_or}
use Rattle.std.proofs.lemmas.Nat.{div-add-mod', div_below, mod_below}
use Rattle.std.proofs.lemmas.Option.{get_or_from_slice_get, slice_get-get_or, slice_get_within}
use Rattle.h3_index.specs.Cell.{Address, IsCell, is_pentagon}
use Rattle.h3_index.specs.Descendants.{child, ancestor_at, descendants, IsDescendant}
use Rattle.h3_index.specs.Laws.{CutsAreCells}
use Rattle.h3_index.specs.Paths.{next_step}
use Rattle.h3_tree.specs.Known.{DescendantsAreKnown}
use Rattle.h3_tree.specs.Positions.{position_under, HasPosition}
use Rattle.h3_tree.proofs.BlockLaws.{IsBlock, block_at, child-ancestor_at, get-block, length-blocks, not_deleted, offset, outer_size, pentagon-child}
use Rattle.h3_tree.proofs.FollowingLaws.{address_same, digit_small}
use Rattle.h3_tree.proofs.PositionLaws.{get-position_under, members_have_positions, position_under-get, size_small, size_some}
use Rattle.h3_tree.proofs.SizeLaws.{sevens_some}

-- ---- under a cell and under its child

position_under-child : DescendantsAreKnown → (m x : Address) (s d before : ℕ) → IsCell m → IsCell (child m d) → s ≤ 15
    → IsBlock m s d before → IsDescendant (child m d) s x → position_under m x ≡ before + position_under (child m d) x
position_under-child laws m x s d before v w high b h =
    let low : length (m.digits ++ d ∷ []) ≤ s = omega (arith, length-append m.digits (d ∷ []), b.finer) in
    let at = get-position_under laws (child m d) x s w low high h in
    let g = get-block m s d before (position_under (child m d) x) x b at.within in
    ap (position_under m) (sym (g.1 ∙ at.is))
    ∙ position_under-get laws m s (before + position_under (child m d) x) x v (omega (arith, b.finer)) high g.0

child_of : DescendantsAreKnown → (m x : Address) (s d before place : ℕ) → IsCell m → IsCell (child m d) → s ≤ 15
    → IsBlock m s d before → before ≤ place → place - before < length (descendants (child m d) s)
    → HasPosition m s x place → HasPosition (child m d) s x (place - before)
child_of laws m x s d before place v w high b from to h =
    let low : length (m.digits ++ d ∷ []) ≤ s = omega (arith, length-append m.digits (d ∷ []), b.finer) in
    let at = get-position_under laws m x s v (omega (arith, b.finer)) high h.descendant in
    let g = get-block m s d before (place - before) x b to in
    let back : before + (place - before) ≡ position_under m x = omega (arith, from, h.is) in
    let here : get_or (descendants (child m d) s) (place - before) x ≡ x =
    sym g.1 ∙ ap (λ n. get_or (descendants m s) n x) back ∙ at.is in
    let under : IsDescendant (child m d) s x = (laws.members (child m d) s w low high x).0 (place - before, to, here) in
    record {
      descendant = under;
      is =
          ap (position_under (child m d)) (sym here)
          ∙ position_under-get laws (child m d) s (place - before) x w low high to;
    }

-- ---- below a hexagon

no_zero : (k : ℕ) → k ≢ 0 → (k == 0) ≡ false
no_zero k h = grind (arith, nat_tests)

hexagon_size : DescendantsAreKnown → (m : Address) (s d outer : ℕ) → is_pentagon m ≡ false
    → outer ≡ 7 ^ (s - length m.digits - 1) → length (descendants (child m d) s) ≡ outer
hexagon_size laws m s d outer h o =
    let less : s - length (m.digits ++ d ∷ []) ≡ s - length m.digits - 1 =
    omega (arith, length-append m.digits (d ∷ [])) in
    laws.hexagons (child m d) s (pentagon-child m d ∙ (rw h refl)) ∙ ap (λ n. 7 ^ n) less ∙ sym o

offset_hexagon : (p : Bool) (outer d : ℕ) → p ≡ false → offset p outer outer d ≡ d * outer
offset_hexagon true outer d h = cc
offset_hexagon false outer zero h = omega arith
offset_hexagon false outer (suc d) h =
    let back : suc d - 1 ≡ d = omega arith in
    rw (no_zero (suc d) (λ e. omega (arith, e)), back) (grind arith)

-- ---- how many stand before a cell's own

pub record HasBefore (c : Address) (s before : ℕ) : Type 0 where
  pub small : before ≤ 4747561509943
  pub ahead : (x : Address) → IsDescendant c s x
      → position_under (ancestor_at c (length c.digits - 1)) x ≡ before + position_under c x

before_of : DescendantsAreKnown → (m c : Address) (s d before : ℕ) → child m d ≡ c → IsCell m → IsCell c → s ≤ 15
    → IsBlock m s d before
    → (before ≤ 4747561509943) × ((x : Address) → IsDescendant c s x → position_under m x ≡ before + position_under c x)
before_of laws m c s d before e v w high b =
    let w' : IsCell (child m d) = subst IsCell (sym e) w in
    let first = get-block m s d before 0 m b (size_some laws (child m d) s) in (
      omega (arith, first.0, size_small laws m s high),
      subst (λ y. (x : Address) → IsDescendant y s x → position_under m x ≡ before + position_under y x) e
          (λ x h. position_under-child laws m x s d before v w' high b h),
    )

-- d is the last digit of a cell that is not coarser than s
pub record IsLastDigit (c : Address) (s d : ℕ) : Type 0 where
  pub valid : IsCell c
  pub parent_valid : IsCell (ancestor_at c (length c.digits - 1))
  pub some : 0 < length c.digits
  pub low : length c.digits ≤ s
  pub high : s ≤ 15
  pub is : get_or c.digits (length c.digits - 1) 7 ≡ d
  pub small : d < 7

module _ (laws : DescendantsAreKnown) (c : Address) (s d : ℕ) (h : IsLastDigit c s d) where
  parent_level : length (take (length c.digits - 1) c.digits) ≡ length c.digits - 1
  parent_level = length-take-le (length c.digits - 1) c.digits (omega (arith, h.some))

  parent_power : s - length c.digits ≡ s - length (take (length c.digits - 1) c.digits) - 1
  parent_power = omega (arith, parent_level, h.some)

  pub whole_cell : child (ancestor_at c (length c.digits - 1)) d ≡ c
  whole_cell = child-ancestor_at c d h.some h.is

  before_at : (center outer : ℕ) → center ≡ length (descendants (child (ancestor_at c (length c.digits - 1)) 0) s)
      → outer ≡ 7 ^ (s - length c.digits)
      → HasBefore c s (offset (is_pentagon (ancestor_at c (length c.digits - 1))) center outer d)
  before_at center outer e o =
      let b =
      block_at laws.hexagons (ancestor_at c (length c.digits - 1)) s d center outer
      (omega (arith, parent_level, h.some, h.low)) e (o ∙ ap (λ n. 7 ^ n) parent_power) h.small
      (not_deleted (ancestor_at c (length c.digits - 1)) d (subst IsCell (sym whole_cell) h.valid)) in
      let f =
      before_of laws (ancestor_at c (length c.digits - 1)) c s d
      (offset (is_pentagon (ancestor_at c (length c.digits - 1))) center outer d) whole_cell h.parent_valid
      h.valid h.high b in
      record { small = f.0; ahead = f.1 }

  pub before_center : d ≡ 0 → HasBefore c s 0
  before_center z =
      rw z
      at (before_at (length (descendants (child (ancestor_at c (length c.digits - 1)) 0) s))
      (7 ^ (s - length c.digits)) refl refl)

  pub before_hexagon : (outer : ℕ) → is_pentagon (ancestor_at c (length c.digits - 1)) ≡ false
      → outer ≡ 7 ^ (s - length c.digits) → HasBefore c s (d * outer)
  before_hexagon outer hexagon o =
      let center =
      hexagon_size laws (ancestor_at c (length c.digits - 1)) s 0 outer hexagon
      (o ∙ ap (λ n. 7 ^ n) parent_power) in
      subst (HasBefore c s) (offset_hexagon (is_pentagon (ancestor_at c (length c.digits - 1))) outer d hexagon)
      (before_at outer outer (sym center) o)

  pub after_deleted : is_pentagon (ancestor_at c (length c.digits - 1)) ≡ true → d ≢ 0 → 2 ≤ d
  after_deleted pentagon nz =
      let one : d ≢ 1 =
      not_deleted (ancestor_at c (length c.digits - 1)) d (subst IsCell (sym whole_cell) h.valid) pentagon in
      omega (arith, nz, one)

  pub before_pentagon : (center outer : ℕ) → is_pentagon (ancestor_at c (length c.digits - 1)) ≡ true → d ≢ 0
      → center ≡ length (descendants (child (ancestor_at c (length c.digits - 1)) 0) s)
      → outer ≡ 7 ^ (s - length c.digits) → HasBefore c s (center + (d - 2) * outer)
  before_pentagon center outer pentagon nz e o =
      subst (λ p. HasBefore c s (center + (d - next_step p 0) * outer)) pentagon
      (rw (no_zero d nz) at (before_at center outer e o))

-- ---- the child that has a descendant

pub record IsChildBelow (m : Address) (s place d rest : ℕ) : Type 0 where
  pub small : d < 7
  pub ok : is_pentagon m ≡ true → d ≢ 1
  pub below : IsCell (child m d) → (x : Address) → HasPosition m s x place → HasPosition (child m d) s x rest

module _ (laws : DescendantsAreKnown) (m : Address) (s place center outer : ℕ) (v : IsCell m)
    (finer : length m.digits < s) (high : s ≤ 15) (c : center ≡ length (descendants (child m 0) s))
    (o : outer ≡ 7 ^ (s - length m.digits - 1)) where
  pub below_center : place < center → IsCell (child m 0) → (x : Address) → HasPosition m s x place
      → HasPosition (child m 0) s x place
  below_center lt w x h =
      let b = block_at laws.hexagons m s 0 center outer finer c o (omega arith) (λ _ e. omega (arith, e)) in
      let e : place - 0 ≡ place = omega arith in
      rw e at (child_of laws m x s 0 0 place v w high b (omega arith) (omega (arith, c, lt)) h)

second_some : (p : Bool) → 0 < next_step p 0
second_some true = omega arith
second_some false = omega arith

second_below_pentagon : (p : Bool) → p ≡ true → 1 < next_step p 0
second_below_pentagon true h = omega arith
second_below_pentagon false h = cc

module _ (laws : DescendantsAreKnown) (m : Address) (s place center outer : ℕ) (v : IsCell m)
    (finer : length m.digits < s) (high : s ≤ 15) (c : center ≡ length (descendants (child m 0) s))
    (o : outer ≡ 7 ^ (s - length m.digits - 1)) (from : center ≤ place)
    (within : place < length (descendants m s)) where
  pub outer_some : 0 < outer
  outer_some = rw o (omega (arith, sevens_some (s - length m.digits - 1)))

  few : (place - center) / outer < 7 - next_step (is_pentagon m) 0
  few =
      let all = length-blocks laws.hexagons m s center outer finer c o in
      let less : place - center < (7 - next_step (is_pentagon m) 0) * outer = omega (arith, all, from, within) in
      div_below (place - center) outer (7 - next_step (is_pentagon m) 0) outer_some less

  not_center : next_step (is_pentagon m) 0 + (place - center) / outer ≢ 0
  not_center e = omega (arith, e, second_some (is_pentagon m))

  begins : IsBlock m s (next_step (is_pentagon m) 0 + (place - center) / outer)
      (center + (place - center) / outer * outer)
  begins =
      let small : next_step (is_pentagon m) 0 + (place - center) / outer < 7 = omega (arith, few) in
      let b =
      block_at laws.hexagons m s (next_step (is_pentagon m) 0 + (place - center) / outer) center outer finer c o
      small (λ t e. omega (arith, e, second_below_pentagon (is_pentagon m) t)) in
      let back : next_step (is_pentagon m) 0 + (place - center) / outer - next_step (is_pentagon m) 0
      ≡ (place - center) / outer =
      omega arith in
      rw (no_zero (next_step (is_pentagon m) 0 + (place - center) / outer) not_center, back) at b

  below_outer : IsChildBelow m s place (next_step (is_pentagon m) 0 + (place - center) / outer)
      ((place - center) % outer)
  below_outer =
      let split = div-add-mod' (place - center) outer in
      let low = mod_below (place - center) outer outer_some in
      let rest : place - (center + (place - center) / outer * outer) ≡ (place - center) % outer =
      omega (arith, split, from) in
      let size =
      outer_size laws.hexagons m s (next_step (is_pentagon m) 0 + (place - center) / outer) outer
      (no_zero (next_step (is_pentagon m) 0 + (place - center) / outer) not_center) o in
      let start : center + (place - center) / outer * outer ≤ place = omega (arith, split, from) in
      let inside : place - (center + (place - center) / outer * outer)
      < length (descendants (child m (next_step (is_pentagon m) 0 + (place - center) / outer)) s) =
      rw (rest, size) low in
      record {
        small = omega (arith, few);
        ok = λ t e. omega (arith, e, second_below_pentagon (is_pentagon m) t);
        below = λ w x h.
            rw rest
            at (child_of laws m x s (next_step (is_pentagon m) 0 + (place - center) / outer)
            (center + (place - center) / outer * outer) place v w high begins start inside h);
      }

  pub below_pentagon : is_pentagon m ≡ true
      → IsChildBelow m s place (2 + (place - center) / outer) ((place - center) % outer)
  below_pentagon pentagon =
      subst (λ p. IsChildBelow m s place (next_step p 0 + (place - center) / outer) ((place - center) % outer)) pentagon
      below_outer

pub below_hexagon : DescendantsAreKnown → (m : Address) (s place outer : ℕ) → IsCell m → length m.digits < s → s ≤ 15
    → is_pentagon m ≡ false → outer ≡ 7 ^ (s - length m.digits - 1) → place < length (descendants m s)
    → IsChildBelow m s place (place / outer) (place % outer)
below_hexagon laws m s place outer v finer high hexagon o within =
    let some : 0 < outer = rw o (omega (arith, sevens_some (s - length m.digits - 1))) in
    let next : suc (s - length m.digits - 1) ≡ s - length m.digits = omega arith in
    let all : length (descendants m s) ≡ 7 * outer =
    laws.hexagons m s hexagon ∙ ap (λ n. 7 ^ n) (sym next) ∙ pow-suc 7 (s - length m.digits - 1)
    ∙ (rw o (grind arith)) in
    let few : place / outer < 7 = div_below place outer 7 some (omega (arith, all, within)) in
    let split = div-add-mod' place outer in
    let rest : place - place / outer * outer ≡ place % outer = omega (arith, split) in
    let start : place / outer * outer ≤ place = omega (arith, split) in
    let inside : place - place / outer * outer < length (descendants (child m (place / outer)) s) =
    rw (rest, hexagon_size laws m s (place / outer) outer hexagon o) (mod_below place outer some) in
    let b =
    block_at laws.hexagons m s (place / outer) outer outer finer (sym (hexagon_size laws m s 0 outer hexagon o)) o
    few (λ t. absurd (differs t)) in
    let begins : IsBlock m s (place / outer) (place / outer * outer) =
    subst (IsBlock m s (place / outer)) (offset_hexagon (is_pentagon m) outer (place / outer) hexagon) b in
    record {
      small = few;
      ok = λ t. absurd (differs t);
      below = λ w x h.
          rw rest at (child_of laws m x s (place / outer) (place / outer * outer) place v w high begins start inside h);
    }
  where
    differs : is_pentagon m ≡ true → ⊥
    differs t = let e : true ≡ false = sym t ∙ hexagon in cc

-- ---- down to a descendant

pub record IsReached (c : Address) (s place level left : ℕ) (m : Address) : Type 0 where
  pub valid : IsCell m
  pub level_is : length m.digits ≡ level
  pub below : HasPosition m s (get_or (descendants c s) place c) left

pub reached_start : DescendantsAreKnown → (c : Address) (s place level : ℕ) → IsCell c → length c.digits ≤ s → s ≤ 15
    → place < length (descendants c s) → level ≡ length c.digits → IsReached c s place level place c
reached_start laws c s place level v low high within e =
    record {
      valid = v;
      level_is = sym e;
      below = record {
        descendant =
            (laws.members c s v low high (get_or (descendants c s) place c)).0
            (Contains-get_or (descendants c s) place c within);
        is = position_under-get laws c s place c v low high within;
      };
    }

pub reached_within : DescendantsAreKnown → (c : Address) (s place level left : ℕ) (m : Address) → level < s → s ≤ 15
    → IsReached c s place level left m → left < length (descendants m s)
reached_within laws c s place level left m lt high h =
    let at =
    get-position_under laws m (get_or (descendants c s) place c) s h.valid (omega (arith, h.level_is, lt)) high
    h.below.descendant in
    omega (arith, at.within, h.below.is)

pub reached_end : (c : Address) (s place level left : ℕ) (m : Address) → s ≤ level → place < length (descendants c s)
    → IsReached c s place level left m → slice_get (descendants c s) place ≡ Some m
reached_end c s place level left m le within h =
    let all : take (length m.digits) (get_or (descendants c s) place c).digits
    ≡ (get_or (descendants c s) place c).digits =
    take_all (length m.digits) (get_or (descendants c s) place c).digits
    (omega (arith, h.level_is, le, h.below.descendant.resolution_is)) in
    let same : get_or (descendants c s) place c ≡ m =
    sym (address_same (ancestor_at (get_or (descendants c s) place c) (length m.digits))
    (get_or (descendants c s) place c) refl all)
    ∙ h.below.descendant.under in
    slice_get-get_or (descendants c s) place c within ∙ ap Some same

pub reached_place : DescendantsAreKnown → (c : Address) (s place : ℕ) (m : Address) → IsCell c → length c.digits ≤ s
    → s ≤ 15 → slice_get (descendants c s) place ≡ Some m → HasPosition c s m place
reached_place laws c s place m v low high e =
    let within = slice_get_within (descendants c s) place m e in
    record {
      descendant =
          (laws.members c s v low high m).0 (place, within, get_or_from_slice_get (descendants c s) place m m e);
      is = members_have_positions laws c m s place v low high e;
    }

-- ---- the sum of a position

pub record IsCounted (c : Address) (q level so_far : ℕ) : Type 0 where
  pub is : so_far + position_under (ancestor_at c level) c ≡ position_under (ancestor_at c q) c

cut_twice : (l : ℕ) (ds : List ℕ) → l < length ds → take (length (take (l + 1) ds) - 1) (take (l + 1) ds) ≡ take l ds
cut_twice l ds lt =
    let size : length (take (l + 1) ds) - 1 ≡ l = omega (arith, length-take-le (l + 1) ds (omega arith)) in
    rw size (take-take l (l + 1) ds (omega arith))

pub cut_address : (c : Address) (l : ℕ) → l < length c.digits
    → ancestor_at (ancestor_at c (l + 1)) (length (ancestor_at c (l + 1)).digits - 1) ≡ ancestor_at c l
cut_address c l lt =
    address_same (ancestor_at (ancestor_at c (l + 1)) (length (ancestor_at c (l + 1)).digits - 1)) (ancestor_at c l)
    refl (cut_twice l c.digits lt)

pub cut_above : (c : Address) (q : ℕ) → IsCell c → q ≤ length c.digits
    → IsDescendant (ancestor_at c q) (length c.digits) c
cut_above c q v le =
    record { valid = v; resolution_is = refl; under = ap (λ n. ancestor_at c n) (length-take-le q c.digits le) }

alone : DescendantsAreKnown → (c : Address) → length (descendants c (length c.digits)) ≡ 1
alone laws c =
    let none : length c.digits - length c.digits ≡ 0 = omega arith in
    elim (cases_Bool (is_pentagon c)) [
      | inl h ↦ laws.pentagons c (length c.digits) h ∙ rw none refl
      | inr h ↦ laws.hexagons c (length c.digits) h ∙ rw none refl
    ]

pub counted_end : DescendantsAreKnown → (c : Address) (q l so_far : ℕ) → IsCell c → length c.digits ≤ l
    → IsCounted c q l so_far → so_far ≡ position_under (ancestor_at c q) c
counted_end laws c q l so_far v le h =
    let same : ancestor_at c l ≡ c = address_same (ancestor_at c l) c refl (take_all l c.digits le) in
    let self : IsDescendant c (length c.digits) c = record {
      valid = v;
      resolution_is = refl;
      under = address_same (ancestor_at c (length c.digits)) c refl (take-length c.digits);
    } in
    let at = get-position_under laws c c (length c.digits) v (omega arith) (omega (arith, v.coarse)) self in
    let none : position_under c c ≡ 0 = omega (arith, at.within, alone laws c) in
    omega (arith, h.is, ap (λ m. position_under m c) same, none)

-- ---- below a hexagon a position is the number of the digits in base 7

-- the digits up to a level are the number so far
pub record IsInSevens (c : Address) (q level so_far : ℕ) : Type 0 where
  pub hexagon : is_pentagon (ancestor_at c level) ≡ false
  pub is : so_far * 7 ^ (length c.digits - level) + position_under (ancestor_at c level) c
      ≡ position_under (ancestor_at c q) c

pub last_of_cut : CutsAreCells → (c : Address) (l d : ℕ) → IsCell c → l < length c.digits → d ≡ get_or c.digits l 7
    → IsLastDigit (ancestor_at c (l + 1)) (length c.digits) d
last_of_cut cuts c l d v lt e =
    let size : length (take (l + 1) c.digits) ≡ l + 1 = length-take-le (l + 1) c.digits (omega arith) in
    let last : length (take (l + 1) c.digits) - 1 ≡ l = omega (arith, size) in
    let read : get_or (take (l + 1) c.digits) l 7 ≡ get_or c.digits l 7 =
    get_or-take (l + 1) c.digits l 7 (omega arith) in
    record {
      valid = cuts c (l + 1) v (omega arith);
      parent_valid = subst IsCell (sym (cut_address c l lt)) (cuts c l v (omega arith));
      some = omega (arith, size);
      low = omega (arith, size);
      high = omega (arith, v.coarse);
      is = ap (λ n. get_or (take (l + 1) c.digits) n 7) last ∙ read ∙ sym e;
      small = rw e (digit_small c.digits l v.digits_small lt);
    }

sevens_more : (so_far d outer under rest whole : ℕ) (n : ℕ) → outer ≡ 7 ^ n → under ≡ d * outer + rest
    → so_far * 7 ^ suc n + under ≡ whole → (7 * so_far + d) * outer + rest ≡ whole
sevens_more so_far d outer under rest whole n o u h =
    let power : 7 ^ suc n ≡ outer * 7 = pow-suc 7 n ∙ ap (λ m. m * 7) (sym o) in
    let before : so_far * (outer * 7) + (d * outer + rest) ≡ whole = rw (← power, ← u) h in
    let spread : (7 * so_far + d) * outer + rest ≡ so_far * (outer * 7) + (d * outer + rest) = grind arith in
    spread ∙ before

sevens_step : DescendantsAreKnown → CutsAreCells → (c : Address) (q l so_far d : ℕ) → IsCell c → l < length c.digits
    → d ≡ get_or c.digits l 7 → IsInSevens c q l so_far → IsInSevens c q (l + 1) (7 * so_far + d)
sevens_step laws cuts c q l so_far d v lt e h =
    let last = last_of_cut cuts c l d v lt e in
    let size : length (take (l + 1) c.digits) ≡ l + 1 = length-take-le (l + 1) c.digits (omega arith) in
    let above : ancestor_at (ancestor_at c (l + 1)) (length (ancestor_at c (l + 1)).digits - 1) ≡ ancestor_at c l =
    cut_address c l lt in
    let hexagon : is_pentagon (ancestor_at (ancestor_at c (l + 1)) (length (ancestor_at c (l + 1)).digits - 1))
    ≡ false =
    ap is_pentagon above ∙ h.hexagon in
    let power : 7 ^ (length c.digits - (l + 1)) ≡ 7 ^ (length c.digits - length (take (l + 1) c.digits)) =
    ap (λ n. 7 ^ (length c.digits - n)) (sym size) in
    let before =
    before_hexagon laws (ancestor_at c (l + 1)) (length c.digits) d last (7 ^ (length c.digits - (l + 1))) hexagon
    power in
    let ahead : position_under (ancestor_at c l) c
    ≡ d * 7 ^ (length c.digits - (l + 1)) + position_under (ancestor_at c (l + 1)) c =
    ap (λ m. position_under m c) (sym above) ∙ before.ahead c (cut_above c (l + 1) v (omega arith)) in
    let next : suc (length c.digits - (l + 1)) ≡ length c.digits - l = omega arith in
    let whole : so_far * 7 ^ suc (length c.digits - (l + 1)) + position_under (ancestor_at c l) c
    ≡ position_under (ancestor_at c q) c =
    rw next h.is in
    record {
      hexagon =
          ap is_pentagon
          (sym (ap (λ m. child m d) (sym above) ∙ whole_cell laws (ancestor_at c (l + 1)) (length c.digits) d last))
          ∙ pentagon-child (ancestor_at c l) d ∙ (rw h.hexagon refl);
      is =
          sevens_more so_far d (7 ^ (length c.digits - (l + 1))) (position_under (ancestor_at c l) c)
          (position_under (ancestor_at c (l + 1)) c) (position_under (ancestor_at c q) c)
          (length c.digits - (l + 1)) refl ahead whole;
    }

sevens_end : DescendantsAreKnown → (c : Address) (q l so_far : ℕ) → IsCell c → length c.digits ≤ l
    → IsInSevens c q l so_far → so_far ≡ position_under (ancestor_at c q) c
sevens_end laws c q l so_far v le h =
    let none : length c.digits - l ≡ 0 = omega arith in
    let one : so_far * 7 ^ (length c.digits - l) ≡ so_far = rw none (omega arith) in
    counted_end laws c q l so_far v le
    (record { is = ap (λ n. n + position_under (ancestor_at c l) c) (sym one) ∙ h.is })

any_default : (ds : List ℕ) (i a b : ℕ) → i < length ds → get_or ds i a ≡ get_or ds i b
any_default [] i a b lt = absurd (omega (arith, lt))
any_default (d ∷ ds) zero a b lt = refl
any_default (d ∷ ds) (suc i) a b lt = any_default ds i a b (omega (arith, lt))

-- the first n digits below a hexagon
in_sevens : DescendantsAreKnown → CutsAreCells → (c : Address) (q n : ℕ) → IsCell c → q + n ≤ length c.digits
    → is_pentagon (ancestor_at c q) ≡ false → IsInSevens c q (q + n) (number_from_digits 7 (take n (drop q c.digits)))
in_sevens laws cuts c q zero v le h =
    let none : q + 0 ≡ q = omega arith in
    rw none (record { hexagon = h; is = omega arith })
in_sevens laws cuts c q (suc n) v le h =
    let next : q + suc n ≡ q + n + 1 = omega arith in
    let one : suc n ≡ n + 1 = omega arith in
    let within : n < length (drop q c.digits) = omega (arith, le, length-drop q c.digits) in
    let digit : get_or (drop q c.digits) n 0 ≡ get_or c.digits (q + n) 7 =
    get_or-drop q c.digits n 0 ∙ any_default c.digits (q + n) 0 7 (omega (arith, le)) in
    let more : number_from_digits 7 (take (suc n) (drop q c.digits))
    ≡ 7 * number_from_digits 7 (take n (drop q c.digits)) + get_or c.digits (q + n) 7 =
    ap (λ m. number_from_digits 7 (take m (drop q c.digits))) one ∙ number_more 7 (drop q c.digits) n within
    ∙ (rw digit (grind arith)) in
    rw (next, more) (sevens_step laws cuts c q (q + n) (number_from_digits 7 (take n (drop q c.digits)))
    (get_or c.digits (q + n) 7) v (omega (arith, le)) refl (in_sevens laws cuts c q n v (omega (arith, le)) h))

-- all of them
pub position_in_sevens : DescendantsAreKnown → CutsAreCells → (c : Address) (q : ℕ) → IsCell c → q ≤ length c.digits
    → is_pentagon (ancestor_at c q) ≡ false
    → number_from_digits 7 (drop q c.digits) ≡ position_under (ancestor_at c q) c
position_in_sevens laws cuts c q v le h =
    let n = length c.digits - q in
    let end : q + (length c.digits - q) ≡ length c.digits = omega (arith, le) in
    let all : take (length c.digits - q) (drop q c.digits) ≡ drop q c.digits =
    take_all (length c.digits - q) (drop q c.digits) (omega (arith, length-drop q c.digits)) in
    ap (λ ds. number_from_digits 7 ds) (sym all)
    ∙ sevens_end laws c q (q + (length c.digits - q))
    (number_from_digits 7 (take (length c.digits - q) (drop q c.digits))) v (omega (arith, end))
    (in_sevens laws cuts c q (length c.digits - q) v (omega (arith, end)) h)

-- ---- the digits below a resolution

pub below_eight : (q : ℕ) (ds : List ℕ) → AllBelowBase 7 ds → AllBelowBase 8 (drop q ds)
below_eight zero [] h = tt
below_eight zero (d ∷ ds) h = (omega (arith, h.0), below_eight zero ds h.1)
below_eight (suc q) [] h = tt
below_eight (suc q) (d ∷ ds) h = below_eight q ds h.1

-- the digits of a cell below a resolution, as an octal number
pub record AreDigitsBelow (c : Address) (q : ℕ) : Type 0 where
  pub small : AllBelowBase 8 (drop q c.digits)
  pub few : length (drop q c.digits) ≤ 16
  pub fifteen : number_from_digits 8 (drop q c.digits) < 2 ^ 45
  pub number_small : number_from_digits 8 (drop q c.digits) < 2 ^ 48

pub digits_below : (c : Address) (q : ℕ) → IsCell c → AreDigitsBelow c q
digits_below c q v =
    let small = below_eight q c.digits v.digits_small in
    let few : length (drop q c.digits) ≤ 15 = omega (arith, length-drop q c.digits, v.coarse) in
    let power : 8 ^ length (drop q c.digits) ≤ 8 ^ 15 = pow-le-pow_right (omega arith) few in
    record {
      small = small;
      few = omega (arith, few);
      fifteen = omega (arith, number_lt 8 (drop q c.digits) small, power);
      number_small = omega (arith, number_lt 8 (drop q c.digits) small, power);
    }
