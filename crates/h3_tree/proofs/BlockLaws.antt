-- The list of a cell's descendants, child by child.
use Rattle.std.specs.List.{flat_map}
use Rattle.std.proofs.Common.{ℕ, zero, suc, ◌≡◌, ◌≢◌, ◌+◌, ◌-◌, ◌*◌, ◌^◌, ◌<◌, ◌==◌, List, [], ◌∷◌, ◌++◌, length, map, take, Bool, true, false, ◌&&◌, if◌then◌else◌, refl, get_or, length-append, arith, ◌∙◌, sym, ap}
use Rattle.std.proofs.Math.Seq.{take-suc, take-length}
use Rattle.std.proofs.lemmas.List.{append_assoc, map-append}
use Rattle.std.proofs.lemmas.List.Concat.{get_or-flat_map}
use Rattle.std.proofs.lemmas.List.Folds.{length-flat_map-take}
use Rattle.h3_index.specs.Cell.{Address, IsCell, leading, is_pentagon, is_pentagon_base}
use Rattle.h3_index.specs.Descendants.{along, child, ancestor_at, descendants}
use Rattle.h3_index.specs.Laws.{HexagonsHaveSevens}
use Rattle.h3_index.specs.Paths.{next_step, paths, steps}
use Rattle.h3_tree.proofs.FollowingLaws.{address_same, not_zero}

-- ---- a child

leading-push : (ds : List ℕ) (d : ℕ) → (leading (ds ++ d ∷ []) == 0) ≡ ((leading ds == 0) && (d == 0))
leading-push [] zero = refl
leading-push [] (suc d) = let z = not_zero d in rw z z
leading-push (zero ∷ ds) d = leading-push ds d
leading-push (suc x ∷ ds) d = let z = not_zero x in rw (z, z) refl

and_three : (a b c : Bool) → a && (b && c) ≡ (a && b) && c
and_three true b c = refl
and_three false b c = refl

pub pentagon-child : (m : Address) (d : ℕ) → is_pentagon (child m d) ≡ (is_pentagon m && d == 0)
pentagon-child m d =
    ap (λ b. is_pentagon_base m.base && b) (leading-push m.digits d)
    ∙ and_three (is_pentagon_base m.base) (leading m.digits == 0) (d == 0)

leading-last : (ds : List ℕ) (d : ℕ) → (leading ds == 0) ≡ true → leading (ds ++ d ∷ []) ≡ d
leading-last [] zero h = refl
leading-last [] (suc d) h = let z = not_zero d in rw z refl
leading-last (zero ∷ ds) d h = leading-last ds d h
leading-last (suc x ∷ ds) d h = let z = not_zero x in let k : false ≡ true = rw (z, z) at h in cc

both : (a b : Bool) → (a && b) ≡ true → (a ≡ true) × (b ≡ true)
both true b h = (refl, h)
both false b h = cc

-- a pentagon has no child of digit 1
pub not_deleted : (m : Address) (d : ℕ) → IsCell (child m d) → is_pentagon m ≡ true → d ≢ 1
not_deleted m d v p e =
    let b = both (is_pentagon_base m.base) (leading m.digits == 0) p in
    v.not_deleted b.0 (leading-last m.digits d b.1 ∙ e)

-- a cell is the child of its parent
pub child-ancestor_at : (c : Address) (d : ℕ) → 0 < length c.digits → get_or c.digits (length c.digits - 1) 7 ≡ d
    → child (ancestor_at c (length c.digits - 1)) d ≡ c
child-ancestor_at c d some e =
    let next : suc (length c.digits - 1) ≡ length c.digits = omega arith in
    address_same (child (ancestor_at c (length c.digits - 1)) d) c refl
    (ap (λ k. take (length c.digits - 1) c.digits ++ k ∷ []) (sym e)
    ∙ sym (take-suc c.digits (length c.digits - 1) 7 (omega arith)) ∙ ap (λ n. take n c.digits) next
    ∙ take-length c.digits)

-- ---- the descendants of the children, one after another

along-child : (m : Address) (d : ℕ) (es : List ℕ) → along m (d ∷ es) ≡ along (child m d) es
along-child m d es =
    address_same (along m (d ∷ es)) (along (child m d) es) refl (sym (append_assoc m.digits (d ∷ []) es))

along_map : (m : Address) (d : ℕ) (xs : List (List ℕ))
    → map (along m) (map (λ ds. d ∷ ds) xs) ≡ map (along (child m d)) xs
along_map m d [] = refl
along_map m d (x ∷ xs) =
    ap (λ y. y ∷ map (along m) (map (λ ds. d ∷ ds) xs)) (along-child m d x)
    ∙ ap (λ ys. along (child m d) x ∷ ys) (along_map m d xs)

block : (m : Address) (s n d : ℕ) → s - length (m.digits ++ d ∷ []) ≡ n
    → map (along m) (map (λ ds. d ∷ ds) (paths (is_pentagon m && d == 0) n)) ≡ descendants (child m d) s
unfolding descendants
block m s n d e =
    along_map m d (paths (is_pentagon m && d == 0) n) ∙ rw (e, pentagon-child m d) refl

blocks_of : (m : Address) (s n : ℕ) → ((d : ℕ) → s - length (m.digits ++ d ∷ []) ≡ n) → (ds : List ℕ)
    → map (along m) (flat_map (λ d. map (λ es. d ∷ es) (paths (is_pentagon m && d == 0) n)) ds)
    ≡ flat_map (λ d. descendants (child m d) s) ds
blocks_of m s n e [] = refl
blocks_of m s n e (d ∷ ds) =
    map-append (along m) (map (λ es. d ∷ es) (paths (is_pentagon m && d == 0) n))
    (flat_map (λ k. map (λ es. k ∷ es) (paths (is_pentagon m && k == 0) n)) ds)
    ∙
    ap (λ ys. ys ++ map (along m) (flat_map (λ k. map (λ es. k ∷ es) (paths (is_pentagon m && k == 0) n)) ds))
    (block m s n d (e d))
    ∙
    ap (λ ys. descendants (child m d) s ++ ys) (blocks_of m s n e ds)

blocks_at : (m : Address) (s n : ℕ) → s - length m.digits ≡ suc n
    → descendants m s ≡ flat_map (λ d. descendants (child m d) s) (steps (is_pentagon m))
unfolding descendants paths
blocks_at m s n more =
    rw more (blocks_of m s n (λ d. omega (arith, length-append m.digits (d ∷ []), more)) (steps (is_pentagon m)))

pub blocks : (m : Address) (s : ℕ) → length m.digits < s
    → descendants m s ≡ flat_map (λ d. descendants (child m d) s) (steps (is_pentagon m))
blocks m s lt = blocks_at m s (s - length m.digits - 1) (omega (arith, lt))

-- ---- where each block begins

-- the lengths of seven blocks, of which the first may be shorter
pub record AreSizes (f : ℕ → List Address) (center outer : ℕ) : Type 0 where
  pub zero : length (f 0) ≡ center
  pub one : length (f 1) ≡ outer
  pub two : length (f 2) ≡ outer
  pub three : length (f 3) ≡ outer
  pub four : length (f 4) ≡ outer
  pub five : length (f 5) ≡ outer
  pub six : length (f 6) ≡ outer

abbrev pub offset : Bool → ℕ → ℕ → ℕ → ℕ
offset p center outer d = if d == 0 then 0 else center + (d - next_step p 0) * outer

-- how many stand before the block of d
pub record IsStep (f : ℕ → List Address) (p : Bool) (d before : ℕ) : Type 0 where
  pub index : ℕ
  pub within : index < length (steps p)
  pub is : get_or (steps p) index d ≡ d
  pub before_is : length (flat_map f (take index (steps p))) ≡ before

step : (f : ℕ → List Address) (center outer : ℕ) → AreSizes f center outer → (p : Bool) (d : ℕ) → d < 7
    → (p ≡ true → d ≢ 1) → IsStep f p d (offset p center outer d)
step f center outer h false zero lt ok = record { index = 0; within = omega arith; is = refl; before_is = refl }
step f center outer h false (suc zero) lt ok =
    record { index = 1; within = omega arith; is = refl; before_is = simp length-append (omega arith) }
step f center outer h false (suc (suc zero)) lt ok =
    record { index = 2; within = omega arith; is = refl; before_is = simp length-append (omega arith) }
step f center outer h false (suc (suc (suc zero))) lt ok =
    record { index = 3; within = omega arith; is = refl; before_is = simp length-append (omega arith) }
step f center outer h false (suc (suc (suc (suc zero)))) lt ok =
    record { index = 4; within = omega arith; is = refl; before_is = simp length-append (omega arith) }
step f center outer h false (suc (suc (suc (suc (suc zero))))) lt ok =
    record { index = 5; within = omega arith; is = refl; before_is = simp length-append (omega arith) }
step f center outer h false (suc (suc (suc (suc (suc (suc zero)))))) lt ok =
    record { index = 6; within = omega arith; is = refl; before_is = simp length-append (omega arith) }
step f center outer h false (suc (suc (suc (suc (suc (suc (suc d))))))) lt ok = absurd (omega (arith, lt))
step f center outer h true zero lt ok = record { index = 0; within = omega arith; is = refl; before_is = refl }
step f center outer h true (suc zero) lt ok = absurd (ok refl refl)
step f center outer h true (suc (suc zero)) lt ok =
    record { index = 1; within = omega arith; is = refl; before_is = simp length-append (omega arith) }
step f center outer h true (suc (suc (suc zero))) lt ok =
    record { index = 2; within = omega arith; is = refl; before_is = simp length-append (omega arith) }
step f center outer h true (suc (suc (suc (suc zero)))) lt ok =
    record { index = 3; within = omega arith; is = refl; before_is = simp length-append (omega arith) }
step f center outer h true (suc (suc (suc (suc (suc zero))))) lt ok =
    record { index = 4; within = omega arith; is = refl; before_is = simp length-append (omega arith) }
step f center outer h true (suc (suc (suc (suc (suc (suc zero)))))) lt ok =
    record { index = 5; within = omega arith; is = refl; before_is = simp length-append (omega arith) }
step f center outer h true (suc (suc (suc (suc (suc (suc (suc d))))))) lt ok = absurd (omega (arith, lt))

whole : (f : ℕ → List Address) (center outer : ℕ) → AreSizes f center outer → (p : Bool)
    → length (flat_map f (steps p)) ≡ center + (7 - next_step p 0) * outer
whole f center outer h false = simp length-append (omega arith)
whole f center outer h true = simp length-append (omega arith)

-- ---- the blocks of a cell's children

pub record IsBlock (m : Address) (s d before : ℕ) : Type 0 where
  pub finer : length m.digits < s
  pub step : IsStep (λ k. descendants (child m k) s) (is_pentagon m) d before

pub and_false : (p : Bool) → (p && false) ≡ false
and_false true = refl
and_false false = refl

pub outer_size : HexagonsHaveSevens → (m : Address) (s k outer : ℕ) → (k == 0) ≡ false
    → outer ≡ 7 ^ (s - length m.digits - 1) → length (descendants (child m k) s) ≡ outer
outer_size hexagons m s k outer nz e =
    let less : s - length (m.digits ++ k ∷ []) ≡ s - length m.digits - 1 =
    omega (arith, length-append m.digits (k ∷ [])) in
    let hexagon : is_pentagon (child m k) ≡ false = pentagon-child m k ∙ (rw nz (and_false (is_pentagon m))) in
    hexagons (child m k) s hexagon ∙ ap (λ n. 7 ^ n) less ∙ sym e

sizes : HexagonsHaveSevens → (m : Address) (s center outer : ℕ) → center ≡ length (descendants (child m 0) s)
    → outer ≡ 7 ^ (s - length m.digits - 1) → AreSizes (λ k. descendants (child m k) s) center outer
sizes hexagons m s center outer c o =
    record {
      zero = sym c;
      one = outer_size hexagons m s 1 outer refl o;
      two = outer_size hexagons m s 2 outer refl o;
      three = outer_size hexagons m s 3 outer refl o;
      four = outer_size hexagons m s 4 outer refl o;
      five = outer_size hexagons m s 5 outer refl o;
      six = outer_size hexagons m s 6 outer refl o;
    }

pub block_at : HexagonsHaveSevens → (m : Address) (s d center outer : ℕ) → length m.digits < s
    → center ≡ length (descendants (child m 0) s) → outer ≡ 7 ^ (s - length m.digits - 1) → d < 7
    → (is_pentagon m ≡ true → d ≢ 1) → IsBlock m s d (offset (is_pentagon m) center outer d)
block_at hexagons m s d center outer lt c o small ok =
    record {
      finer = lt;
      step =
          step (λ k. descendants (child m k) s) center outer (sizes hexagons m s center outer c o) (is_pentagon m) d
          small ok;
    }

pub length-blocks : HexagonsHaveSevens → (m : Address) (s center outer : ℕ) → length m.digits < s
    → center ≡ length (descendants (child m 0) s) → outer ≡ 7 ^ (s - length m.digits - 1)
    → length (descendants m s) ≡ center + (7 - next_step (is_pentagon m) 0) * outer
length-blocks hexagons m s center outer lt c o =
    ap length (blocks m s lt)
    ∙ whole (λ k. descendants (child m k) s) center outer (sizes hexagons m s center outer c o) (is_pentagon m)

-- the members of a block, among all
pub get-block : (m : Address) (s d before j : ℕ) (e : Address) → IsBlock m s d before
    → j < length (descendants (child m d) s)
    → (before + j < length (descendants m s))
    × (get_or (descendants m s) (before + j) e ≡ get_or (descendants (child m d) s) j e)
get-block m s d before j e h within =
    let inner : j < length (descendants (child m (get_or (steps (is_pentagon m)) h.step.index d)) s) =
    rw h.step.is within in
    let room =
    length-flat_map-take (λ k. descendants (child m k) s) (steps (is_pentagon m)) h.step.index d h.step.within in
    let found =
    get_or-flat_map (λ k. descendants (child m k) s) (steps (is_pentagon m)) h.step.index j d e h.step.within
    inner in
    rw (blocks m s h.finer, ← h.step.before_is) (omega (arith, inner, room), found ∙ (rw h.step.is refl))
