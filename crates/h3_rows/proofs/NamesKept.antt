-- Names that are kept.
use Rattle.std.proofs.Common.{◌≡◌, ℕ, suc, ◌+◌, ◌-◌, ◌≤◌, ◌<◌, Bool, true, false, cond, List, [], ◌∷◌, ◌++◌, length, take, drop, get_or, Option, None, Some, sym, ap, ◌∙◌, refl, subst, arith, bytes_eq, ⊎_elim, length-append, length-drop}
use Rattle.std.proofs.lemmas.Bool.{cases_Bool, cases_lt, cond-true, cond-false}
use Rattle.std.proofs.lemmas.List.{drop-append-le, drop_at, get_or-append-add, get_or_append_left, map-append, take-append-le, take_all}
use Rattle.std.specs.Cmp.Lexicographic.{bytes_decides, nat_list_eq_equiv}
use Rattle.std.specs.HashMap.{HashMap, UpdatesBy, get_by}
use Rattle.std.specs.Map.{KeepsOthers, IsKeyTest, AreApart, lookup}
use Rattle.h3_rows.specs.AreaLaws.{position_new, position_stays}
use Rattle.h3_rows.specs.Areas.{AreWithin, name_text, names_in, place_of, span_in, with_name}

-- ---- numbers by texts

apart : (bs cs ks : List ℕ) → bytes_eq bs cs ≡ false → bytes_eq bs ks ≡ true → bytes_eq cs ks ≡ false
apart bs cs ks n y = nat_list_eq_equiv.symm cs ks ∙ sym (nat_list_eq_equiv.congr bs ks cs y) ∙ n

module _ {K : Type 0} (eq : K → K → Bool) (test : K → Bool) where
  other_entries : {X : Type 0} (old new : List (K × X)) → KeepsOthers eq test old new → (other : K → Bool)
      → IsKeyTest eq other → AreApart test other → lookup other new ≡ lookup other old
  unfolding KeepsOthers
  other_entries old new h = h

-- g is w at bs, and f at other bytes
by_bytes : {W : Type 0} (f g : List ℕ → W) (bs : List ℕ) (w : W) → g bs ≡ w
    → ((cs : List ℕ) → bytes_eq bs cs ≡ false → g cs ≡ f cs) → (cs : List ℕ) → g cs ≡ cond (bytes_eq bs cs) w (f cs)
by_bytes f g bs w here other cs =
    ⊎_elim
    (λ y. subst (λ l. g l ≡ w) ((bytes_decides bs cs).0 y) here ∙ sym (cond-true (bytes_eq bs cs) w (f cs) y))
    (λ n. other cs n ∙ sym (cond-false (bytes_eq bs cs) w (f cs) n))
    (cases_Bool (bytes_eq bs cs))

-- the keys are bytes
module _ {K : Type 0} (bytes : K → List ℕ) where
  pub updates_at : {X S : Type 0} (m n : HashMap K X S) (bs : List ℕ) (w : Option X)
      → UpdatesBy (λ x y. bytes_eq (bytes x) (bytes y)) (λ k. bytes_eq bs (bytes k)) m n w
      → (cs : List ℕ)
      → get_by (λ k. bytes_eq cs (bytes k)) n ≡ cond (bytes_eq bs cs) w (get_by (λ k. bytes_eq cs (bytes k)) m)
  updates_at m n bs w h =
      by_bytes (λ cs. get_by (λ k. bytes_eq cs (bytes k)) m) (λ cs. get_by
      (λ k. bytes_eq cs (bytes k)) n) bs w h.1 (λ cs e. other_entries _ _ _ _ h.3 _
      (λ x y. nat_list_eq_equiv.congr cs (bytes x) (bytes y)) (λ k. apart bs cs (bytes k) e))

from_none : (n : ℕ) → 0 + n ≡ n
from_none n = omega arith

plus_none : (n : ℕ) → n ≡ n + 0
plus_none n = omega arith

-- ---- the place of each text, with a new name

place_other : (quotes : Bool) (names : List (List ℕ)) (field text : List ℕ) (o : Option ℕ)
    → place_of quotes text names ≡ o → bytes_eq text (name_text quotes field) ≡ false
    → place_of quotes text (names ++ field ∷ []) ≡ place_of quotes text names
place_other quotes names field text (Some k) is differs =
    position_stays (λ name. bytes_eq text (name_text quotes name)) 0 k names (field ∷ []) is ∙ sym is
place_other quotes names field text None is differs =
    position_new (λ name. bytes_eq text (name_text quotes name)) 0 names field is
    ∙ ap (λ b. cond b (Some (0 + length names)) None) differs ∙ sym is

pub place_new : (quotes : Bool) (names : List (List ℕ)) (field text : List ℕ)
    → place_of quotes (name_text quotes field) names ≡ None
    → place_of quotes text (names ++ field ∷ [])
    ≡ cond (bytes_eq (name_text quotes field) text) (Some (length names)) (place_of quotes text names)
place_new quotes names field text none =
    let tf = name_text quotes field in
    ⊎_elim
    (λ y. (
    let same : tf ≡ text = (bytes_decides tf text).0 y in
    let absent : place_of quotes text names ≡ None = subst (λ l. place_of quotes l names ≡ None) same none in
    let here : bytes_eq text tf ≡ true = nat_list_eq_equiv.symm text tf ∙ y in
    position_new (λ name. bytes_eq text (name_text quotes name)) 0 names field absent
    ∙ ap (λ b. cond b (Some (0 + length names)) None) here ∙ ap Some (from_none (length names))
    ∙ sym (cond-true (bytes_eq tf text) (Some (length names)) (place_of quotes text names) y)))
    (λ n. place_other quotes names field text (place_of quotes text names) refl (nat_list_eq_equiv.symm text tf ∙ n)
    ∙ sym (cond-false (bytes_eq tf text) (Some (length names)) (place_of quotes text names) n))
    (cases_Bool (bytes_eq tf text))

pub known_more : (quotes : Bool) (names : List (List ℕ)) (field : List ℕ) (old new : List ℕ → Option ℕ) (number : ℕ)
    → ((text : List ℕ) → old text ≡ place_of quotes text names)
    → ((text : List ℕ) → new text ≡ cond (bytes_eq (name_text quotes field) text) (Some number) (old text))
    → number ≡ length names → place_of quotes (name_text quotes field) names ≡ None
    → (text : List ℕ) → new text ≡ place_of quotes text (names ++ field ∷ [])
known_more quotes names field old new number known is count none text =
    is text ∙ ap (λ o. cond (bytes_eq (name_text quotes field) text) (Some number) o) (known text)
    ∙ ap (λ n. cond (bytes_eq (name_text quotes field) text) (Some n) (place_of quotes text names)) count
    ∙ sym (place_new quotes names field text none)

pub with_absent : (quotes : Bool) (names : List (List ℕ)) (field : List ℕ)
    → place_of quotes (name_text quotes field) names ≡ None → with_name quotes names field ≡ names ++ field ∷ []
with_absent quotes names field none = rw none refl

-- ---- names in a buffer

span_kept : (bytes field : List ℕ) (span : ℕ × ℕ) → span.0 ≤ span.1 → span.1 ≤ length bytes
    → span_in (bytes ++ field) span ≡ span_in bytes span
span_kept bytes field span begins ends =
    ap (take (span.1 - span.0)) (drop-append-le span.0 bytes field (omega (arith, begins, ends)))
    ∙ take-append-le (span.1 - span.0) (drop span.0 bytes) field
    (omega (arith, length-drop span.0 bytes, begins, ends))

span_new : (bytes field : List ℕ) → span_in (bytes ++ field) (length bytes, length bytes + length field) ≡ field
span_new bytes field =
    ap (λ l. take (length bytes + length field - length bytes) l) (drop_at bytes field (length bytes) refl)
    ∙ take_all (length bytes + length field - length bytes) field (omega arith)

spans_kept : (bytes field : List ℕ) (spans : List (ℕ × ℕ)) → AreWithin bytes spans
    → names_in (bytes ++ field) spans ≡ names_in bytes spans
spans_kept bytes field [] within = refl
spans_kept bytes field (s ∷ ss) within =
    let here = within 0 s (omega arith) in
    ap (λ x. x ∷ names_in (bytes ++ field) ss) (span_kept bytes field s here.0 here.1)
    ∙ ap (λ l. span_in bytes s ∷ l) (spans_kept bytes field ss (λ k d h. within (suc k) d (omega (arith, h))))

pub spans_more : (bytes field : List ℕ) (spans : List (ℕ × ℕ)) → AreWithin bytes spans
    → names_in (bytes ++ field) (spans ++ (length bytes, length bytes + length field) ∷ [])
    ≡ names_in bytes spans ++ field ∷ []
spans_more bytes field spans within =
    let last : ℕ × ℕ = (length bytes, length bytes + length field) in
    map-append (span_in (bytes ++ field)) spans (last ∷ [])
    ∙ ap (λ l. l ++ span_in (bytes ++ field) last ∷ []) (spans_kept bytes field spans within)
    ∙ ap (λ x. names_in bytes spans ++ x ∷ []) (span_new bytes field)

pub within_more : (bytes field : List ℕ) (spans : List (ℕ × ℕ)) → AreWithin bytes spans
    → AreWithin (bytes ++ field) (spans ++ (length bytes, length bytes + length field) ∷ [])
within_more bytes field spans within k d h =
    let last : ℕ × ℕ = (length bytes, length bytes + length field) in
    let count = length-append spans (last ∷ []) in
    let long = length-append bytes field in
    ⊎_elim
    (λ (below : k < length spans). (
    let is = get_or_append_left spans (last ∷ []) d k below in
    let old = within k d below in
    subst (λ (s : ℕ × ℕ). (s.0 ≤ s.1) × (s.1 ≤ length (bytes ++ field))) (sym is) (old.0, omega (arith, long, old.1))))
    (λ (above : length spans ≤ k). (
    let same : k ≡ length spans = omega (arith, count, h, above) in
    let is : get_or (spans ++ last ∷ []) k d ≡ last =
    ap (λ j. get_or (spans ++ last ∷ []) j d) (same ∙ plus_none (length spans))
    ∙ get_or-append-add spans (last ∷ []) 0 d in
    subst (λ (s : ℕ × ℕ). (s.0 ≤ s.1) × (s.1 ≤ length (bytes ++ field))) (sym is) (omega arith, omega (arith, long))))
    (cases_lt k (length spans))
