-- Masks of the lanes that are one of four bytes.
use Rattle.std.proofs.Common.{◌≡◌, ℕ, ◌+◌, ◌≤◌, ◌<◌, ◌^◌, ◌%◌, eqb, cond, Bool, true, false, not, ◌&&◌, ◌||◌, bit_or, List, [], ◌∷◌, ◌++◌, map, length, take, drop, get_or, replicate, refl, sym, ap, ◌∙◌, subst, arith}
use Rattle.std.proofs.Math.Seq.{take-add}
use Rattle.std.proofs.lemmas.Bool.{eqb-true}
use Rattle.std.proofs.lemmas.List.{drop-take, get_or-drop, length-drop, length-map, take_more}
use Rattle.std.proofs.lemmas.List.Folds.{list_all-append}
use Rattle.std.proofs.lemmas.Simd.{first_set_mask_l, mask_l-mod, length-chunk, run_in_chunk_fails, run_in_chunk_le, run_in_chunk_stops}
use Rattle.std.specs.List.{prefix_len, list_all}
use lib.Lanes.{chunk, zip2, mask_l, top}
use Rattle.memchr.specs.Find.{is_byte}
use Rattle.h3_rows.specs.Plain.{is_byte4}
use Rattle.h3_rows.specs.Lanes.{IsOneLine, StopsAfter, first_set}
use Rattle.h3_lines.specs.ScanLaws.{none_below}

either : (w x y z : Bool)
    → top 7 (bit_or (bit_or (bit_or (cond w 255 0) (cond x 255 0)) (cond y 255 0)) (cond z 255 0))
    ≡ (w || (x || y || z))
either true true true true = refl
either true true true false = refl
either true true false true = refl
either true true false false = refl
either true false true true = refl
either true false true false = refl
either true false false true = refl
either true false false false = refl
either false true true true = refl
either false true true false = refl
either false true false true = refl
either false true false false = refl
either false false true true = refl
either false false true false = refl
either false false false true = refl
either false false false false = refl

abbrev lane : ℕ → ℕ → List ℕ → List ℕ
lane n a v = zip2 (λ x y. cond (eqb x y) 255 0) v (replicate n a)

abbrev four : ℕ → ℕ → ℕ → ℕ → ℕ → List ℕ → List ℕ
four n a b c d v = zip2 bit_or (zip2 bit_or (zip2 bit_or (lane n a v) (lane n b v)) (lane n c v)) (lane n d v)

-- a lane is set just where its byte is one of four
set_lanes : (a b c d : ℕ) (v : List ℕ) → map (top 7) (four (length v) a b c d v) ≡ map (is_byte4 a b c d) v
set_lanes a b c d [] = refl
set_lanes a b c d (x ∷ xs) =
    ap (λ t. t ∷ map (top 7) (four (length xs) a b c d xs)) (either (eqb x a) (eqb x b) (eqb x c) (eqb x d))
    ∙ ap (λ ts. is_byte4 a b c d x ∷ ts) (set_lanes a b c d xs)

never : (b : Bool) → b ≡ false → b ≡ true → ⊥
never true h k = absurd (cc)
never false h k = absurd (cc)

pub stops_after : (a b c d : ℕ) (bytes : List ℕ) (at r : ℕ) → at + 16 ≤ length bytes
    → r ≡ first_set (mask_l (map (top 7) (four 16 a b c d (chunk at 16 bytes))) % 2 ^ 64)
    → StopsAfter (is_byte4 a b c d) bytes at r
stops_after a b c d bytes at r room found =
    let p = is_byte4 a b c d in
    let v = chunk at 16 bytes in
    let long : length v ≡ 16 = length-chunk at 16 bytes room in
    let lanes : map (top 7) (four 16 a b c d v) ≡ map p v =
    subst (λ n. map (top 7) (four n a b c d v) ≡ map p v) long (set_lanes a b c d v) in
    let mask : mask_l (map (top 7) (four 16 a b c d v)) % 2 ^ 64 ≡ mask_l (map p v) =
    ap (λ l. mask_l l % 2 ^ 64) lanes ∙ mask_l-mod (map p v) 64 (omega (arith, length-map v p, long)) in
    let counted : r ≡ prefix_len (λ x. not (p x)) v =
    found ∙ ap first_set mask ∙ first_set_mask_l p v 16 long (omega arith) in
    let few : r ≤ 16 = run_in_chunk_le p bytes at 16 r 0 room counted in
    record {
      within = few;
      before = none_below p (drop at bytes) r (omega (arith, length-drop at bytes))
          (λ j low below. never (p (get_or (drop at bytes) j 0)) (ap p (get_or-drop at bytes j 0)
          ∙ run_in_chunk_fails p bytes at 16 r 0 room counted (at + j) (omega arith) (omega (arith, below))));
      stops = run_in_chunk_stops p bytes at 16 r 0 room counted;
    }

-- so many bytes more
pub goes_past : (test : ℕ → Bool) (bytes : List ℕ) (at run : ℕ) → list_all (λ b. not (test b)) (take at bytes) ≡ true
    → list_all (λ b. not (test b)) (take run (drop at bytes)) ≡ true
    → list_all (λ b. not (test b)) (take (at + run) bytes) ≡ true
goes_past test bytes at run before more =
    let q = λ (b : ℕ). not (test b) in
    ap (list_all q) (take-add at run bytes) ∙ list_all-append q (take at bytes) (take run (drop at bytes)) ∙ rw (
      before,
      more,
    ) refl

all_same : (b : Bool) → (b || (b || b || b)) ≡ b
all_same true = refl
all_same false = refl

no_feeds : (bytes : List ℕ)
    → list_all (λ b. not (is_byte4 10 10 10 10 b)) bytes ≡ list_all (λ b. not (is_byte 10 b)) bytes
no_feeds [] = refl
no_feeds (b ∷ bs) =
    ap (λ t. not t && list_all (λ b. not (is_byte4 10 10 10 10 b)) bs) (all_same (eqb b 10))
    ∙ ap (λ l. not (eqb b 10) && l) (no_feeds bs)

pub one_line : (bytes : List ℕ) (at run end : ℕ) → at + 16 ≤ length bytes → run < 16 → eqb (at + run + 1) end ≡ true
    → StopsAfter (is_byte4 10 10 10 10) bytes at run → IsOneLine (drop at (take end bytes))
one_line bytes at run end room short is s =
    let feed : get_or (drop at bytes) run 0 ≡ 10 =
    get_or-drop at bytes run 0
    ∙ eqb-true (get_or bytes (at + run) 0) 10
    (sym (all_same (eqb (get_or bytes (at + run) 0) 10)) ∙ s.stops short) in
    let more : take (run + 1) (drop at bytes) ≡ take run (drop at bytes) ++ get_or (drop at bytes) run 0 ∷ [] =
    take_more (drop at bytes) run 0 (omega (arith, length-drop at bytes)) in
    let seen : drop at (take end bytes) ≡ take (run + 1) (drop at bytes) =
    let count : end ≡ at + (run + 1) = omega (arith, eqb-true (at + run + 1) end is) in
    ap (λ n. drop at (take n bytes)) count ∙ drop-take at (run + 1) bytes in
    record {
      line = take run (drop at bytes);
      split = seen ∙ more ∙ ap (λ b. take run (drop at bytes) ++ b ∷ []) feed;
      whole = sym (no_feeds (take run (drop at bytes))) ∙ s.before;
    }
