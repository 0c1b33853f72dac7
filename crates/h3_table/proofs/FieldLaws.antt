-- Numbers of fields, record by record
use Rattle.std.proofs.Common.{◌≡◌, ◌<◌, ◌≤◌, ◌+◌, ◌-◌, ◌*◌, ℕ, suc, zero, Bool, true, false, not, ◌&&◌, Option, Some, None, List, [], ◌∷◌, ◌++◌, length, take, drop, set, get_or, map, refl, arith, add-one, ap, ◌∙◌, append_assoc, append-nil, Bor}
use Rattle.std.specs.Prelude.{if◌then◌else◌, bytes_eq, option_map, nat_lt, nat_le, ◌==◌}
use Rattle.std.proofs.lemmas.Bool.Decides.{nat_tests}
use Rattle.std.proofs.Math.ListN.{drop_of_length-le}
use Rattle.std.proofs.lemmas.List.{take_all}
use Rattle.std.proofs.Math.Seq.{drop-cons, take-suc-set}
use Rattle.csv.specs.Records.{field_at}
use Rattle.h3_table.specs.Fields.{Record, all_numbers, number_from, number_in, numbers_in, same_fields, with_number}
use Rattle.std.specs.Char.{is_ascii_digit}

-- one more digit
pub number-next : (f : List ℕ) (n i : ℕ) → i < length f
    → number_from n (drop i f)
    ≡ (if is_ascii_digit (get_or f i 0) then number_from (n * 10 + (get_or f i 0 - 48)) (drop (i + 1) f) else None)
unfolding number_from
number-next f n i h = rw (drop-cons f i 0 h, add-one) refl

pub number-end : (f : List ℕ) (n i : ℕ) → length f ≤ i → number_from n (drop i f) ≡ Some n
unfolding number_from
number-end f n i h = rw (drop_of_length-le f h) refl

-- the field at a place is the first of what comes from there on
pub field-drop : (r : Record) (i : ℕ) (f : List ℕ) → field_at r i ≡ Some f → drop i r ≡ f ∷ drop (i + 1) r
unfolding field_at
field-drop [] i f e = cc e
field-drop (g ∷ r) zero f e = let s : g ≡ f = cc in rw s refl
field-drop (g ∷ r) (suc i) f e = let ih = field-drop r i f e in let k : suc i + 1 ≡ suc (i + 1) = omega arith in rw k ih

-- no field: past the end
pub field-none : (r : Record) (i : ℕ) → field_at r i ≡ None → length r ≤ i
unfolding field_at
field-none [] i e = omega arith
field-none (g ∷ r) zero e = cc e
field-none (g ∷ r) (suc i) e = let ih = field-none r i e in omega arith

pub numbers-next : (r : Record) (i : ℕ) (f : List ℕ) → field_at r i ≡ Some f
    → all_numbers (drop i r) ≡ with_number (number_in f) (all_numbers (drop (i + 1) r))
unfolding all_numbers
numbers-next r i f e = rw (field-drop r i f e) refl

and_false : (b : Bool) → b && false ≡ false
and_false true = refl
and_false false = refl

pub fields-length : (r t : Record) → (length r ≡ length t → ⊥) → same_fields r t ≡ false
unfolding same_fields
fields-length [] [] h = absurd (h refl)
fields-length [] (g ∷ gs) h = refl
fields-length (f ∷ fs) [] h = refl
fields-length (f ∷ fs) (g ∷ gs) h = rw (fields-length fs gs (λ e. h (ap (λ n. suc n) e))) (and_false (bytes_eq f g))

pub fields-next : (r t : Record) (i : ℕ) (f g : List ℕ) → field_at r i ≡ Some f → field_at t i ≡ Some g
    → same_fields (drop i r) (drop i t) ≡ bytes_eq f g && same_fields (drop (i + 1) r) (drop (i + 1) t)
unfolding same_fields
fields-next r t i f g e k = rw (field-drop r i f e, field-drop t i g k) refl

-- the number in a field of 1 to 3 bytes is that of its digits
pub number_of_short : (f : List ℕ) → 0 < length f → length f ≤ 3 → number_in f ≡ number_from 0 f
number_of_short f h k =
    let e : nat_lt 0 (length f) && nat_le (length f) 3 ≡ true = grind (arith, nat_tests) in rw e refl

-- the field of a list of references
pub field-map : (xs : List (Bor (List ℕ))) (i : ℕ) (d : Bor (List ℕ)) → i < length xs
    → field_at (map (λ (f : Bor (List ℕ)). f.now) xs) i ≡ Some (get_or xs i d).now
unfolding field_at
field-map [] i d h = absurd (omega arith)
field-map (x ∷ xs) zero d h = refl
field-map (x ∷ xs) (suc i) d h = field-map xs i d (omega arith)

pub fields-end : (r t : Record) (i : ℕ) → length r ≤ i → length t ≤ i → same_fields (drop i r) (drop i t) ≡ true
unfolding same_fields
fields-end r t i h k = rw (drop_of_length-le r h, drop_of_length-le t k) refl

more_of : (o : Option (List ℕ)) (a : List ℕ) (x : ℕ) (b : List ℕ) → b ≡ a ++ (x ∷ [])
    → option_map (λ rest. a ++ rest) (option_map (λ ns. x ∷ ns) o) ≡ option_map (λ rest. b ++ rest) o
more_of None a x b h = refl
more_of (Some ns) a x b h = rw (h, append_assoc a (x ∷ []) ns) refl

-- one more number
pub numbers-more : (r : Record) (ns : List ℕ) (i : ℕ) (f : List ℕ) (x : ℕ) → field_at r i ≡ Some f
    → number_in f ≡ Some x → i < length ns
    → option_map (λ rest. take i ns ++ rest) (all_numbers (drop i r))
    ≡ option_map (λ rest. take (i + 1) (set ns i x) ++ rest) (all_numbers (drop (i + 1) r))
numbers-more r ns i f x e k h =
    rw (numbers-next r i f e, k)
    (more_of (all_numbers (drop (i + 1) r)) (take i ns) x (take (i + 1) (set ns i x)) (take_set ns i x h))
  where
    take_set : (ns : List ℕ) (i x : ℕ) → i < length ns → take (i + 1) (set ns i x) ≡ take i ns ++ (x ∷ [])
    take_set ns i x h = rw (add-one, take-suc-set) refl

pub numbers-none : (r : Record) (i : ℕ) (f : List ℕ) → field_at r i ≡ Some f → number_in f ≡ None
    → all_numbers (drop i r) ≡ None
numbers-none r i f e k = rw (numbers-next r i f e, k) refl

pub numbers-all : (r : Record) (ns : List ℕ) (i : ℕ) → length r ≤ i → length ns ≤ i
    → option_map (λ rest. take i ns ++ rest) (all_numbers (drop i r)) ≡ Some ns
unfolding all_numbers
numbers-all r ns i h k = rw (drop_of_length-le r h) (ap (λ (x : List ℕ). Some x) (rw (append-nil) (take_all i ns k)))

-- a record of the right width
pub numbers-of : (r : Record) (n : ℕ) → length r ≡ n → numbers_in n r ≡ all_numbers r
numbers-of r n h = let e : (length r == n) ≡ true = grind (arith, nat_tests) in rw e refl

pub numbers-refused : (r : Record) (ns : List ℕ) (i n : ℕ) (f : List ℕ) → length r ≡ n
    → all_numbers r ≡ option_map (λ rest. take i ns ++ rest) (all_numbers (drop i r))
    → field_at r i ≡ Some f → number_in f ≡ None → numbers_in n r ≡ None
numbers-refused r ns i n f h a e k = numbers-of r n h ∙ a ∙ rw (numbers-none r i f e k) refl

pub numbers-done : (r : Record) (ns : List ℕ) (i n : ℕ) → length r ≡ n
    → all_numbers r ≡ option_map (λ rest. take i ns ++ rest) (all_numbers (drop i r))
    → n ≤ i → length ns ≡ n → numbers_in n r ≡ Some ns
numbers-done r ns i n h a k l = numbers-of r n h ∙ a ∙ numbers-all r ns i (omega arith) (omega arith)

fields_if : (b rest : Bool) (o : Bool) → o ≡ not b → o ≡ false → b && rest ≡ rest
fields_if true rest o e h = refl
fields_if false rest o e h = cc (e, h)

fields_not : (b rest : Bool) (o : Bool) → o ≡ not b → o ≡ true → b && rest ≡ false
fields_not true rest o e h = cc (e, h)
fields_not false rest o e h = refl

pub fields-same : (r : Record) (xs : List (Bor (List ℕ))) (i : ℕ) (f : List ℕ) (d : Bor (List ℕ)) (o : Bool)
    → i < length xs → field_at r i ≡ Some f
    → o ≡ not (bytes_eq f (get_or xs i d).now) → o ≡ false
    → same_fields (drop i r) (drop i (map (λ (f : Bor (List ℕ)). f.now) xs))
    ≡ same_fields (drop (i + 1) r) (drop (i + 1) (map (λ (f : Bor (List ℕ)). f.now) xs))
fields-same r xs i f d o h e k l =
    fields-next r (map (λ (f : Bor (List ℕ)). f.now) xs) i f (get_or xs i d).now e (field-map xs i d h)
    ∙ fields_if (bytes_eq f (get_or xs i d).now) _ o k l

pub fields-differ : (r : Record) (xs : List (Bor (List ℕ))) (i : ℕ) (f : List ℕ) (d : Bor (List ℕ)) (o : Bool)
    → i < length xs → field_at r i ≡ Some f
    → o ≡ not (bytes_eq f (get_or xs i d).now) → o ≡ true
    → same_fields (drop i r) (drop i (map (λ (f : Bor (List ℕ)). f.now) xs)) ≡ false
fields-differ r xs i f d o h e k l =
    fields-next r (map (λ (f : Bor (List ℕ)). f.now) xs) i f (get_or xs i d).now e (field-map xs i d h)
    ∙ fields_not (bytes_eq f (get_or xs i d).now) _ o k l
