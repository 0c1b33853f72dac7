-- The lines of two cells that differ in some digits alone.
use Rattle.std.specs.Char.{digit_char}
use Rattle.std.specs.Int.Digits.{number_from_digits}
use Rattle.std.proofs.Common.{ℕ, zero, suc, ◌≡◌, ◌+◌, ◌-◌, ◌*◌, ◌/◌, ◌%◌, ◌^◌, ◌<◌, ◌≤◌, List, [], ◌∷◌, ◌++◌, length, get_or, set, take, drop, map, arith, refl, sym, ap, ◌∙◌, lit<, inr}
use Rattle.std.proofs.Math.Nat.{one-le-pow}
use Rattle.std.proofs.Math.Seq.{drop-append-add, drop-append_seam, take-append-add, take-append_seam}
use Rattle.std.proofs.lemmas.List.{append-nil, append_assoc, drop-append-le, length-append, length-drop, length-map, length-take-le, map-append, take-append-drop, take-append-le}
use Rattle.std.proofs.lemmas.Nat.{mod-mul-add, pow-add}
use Rattle.h3_index.specs.Cell.{Address, IsCell, number_of}
use Rattle.h3_index.specs.Digits.{last_digits}
use Rattle.h3_index.specs.Text.{text_of}
use Rattle.h3_index.proofs.CellLaws.{head_of, mode-number_of}
use Rattle.h3_index.proofs.DigitsLaws.{eights, last_digits-ancestor_at, length-last_digits, low-last_digits, sixteens}
use Rattle.h3_index.proofs.MoveLaws.{next_number, number_small}
use Rattle.h3_index.proofs.WriteLaws.{rest_is}

-- the text of a cell has fifteen digits
abbrev pub fifteen : ℕ → List ℕ
fifteen v = map digit_char (last_digits 16 15 v)

cell_text : (c : Address) → IsCell c → text_of (number_of c) ≡ fifteen (number_of c)
unfolding text_of
cell_text c h =
    let mode : number_of c / 2 ^ 56 ≡ 8 = mode-number_of c h in
    let small : number_of c < 2 ^ 60 = number_small c h in
    ap (map digit_char) (rest_is (number_of c) 1 (omega arith) (omega (arith, small)) (inr (omega (arith, mode))))

length-fifteen : (v : ℕ) → length (fifteen v) ≡ 15
length-fifteen v = length-map (last_digits 16 15 v) digit_char ∙ length-last_digits 16 15 v

pub length-text : (c : Address) → IsCell c → length (text_of (number_of c)) ≡ 15
length-text c h = ap length (cell_text c h) ∙ length-fifteen (number_of c)

-- these digits and a line feed are its line
pub line_made : (c : Address) (v : ℕ) → IsCell c → v ≡ number_of c
    → map digit_char (last_digits 16 15 v) ++ 10 ∷ [] ≡ text_of (number_of c) ++ 10 ∷ []
line_made c v h is = ap (λ m. fifteen m ++ 10 ∷ []) is ∙ ap (λ l. l ++ 10 ∷ []) (sym (cell_text c h))

-- ---- cells whose numbers agree above some digits

-- the bits of the digits above a cell's resolution are ones
pub ones_below : (c : Address) (n : ℕ) → IsCell c → 4 * n ≤ 3 * (15 - length c.digits)
    → number_of c % 16 ^ n ≡ 16 ^ n - 1
ones_below c n h fit =
    let r = length c.digits in
    let over = 3 * (15 - r) - 4 * n in
    let p = 16 ^ n in
    let q = 2 ^ over in
    let some : 0 < p = one-le-pow n 16 (lit< tt) in
    let low : 8 ^ (15 - r) ≡ q * p =
    sym (eights (15 - r)) ∙ (let sum : 3 * (15 - r) ≡ over + 4 * n = omega (arith, fit) in ap (λ m. 2 ^ m) sum)
    ∙ pow-add 2 over (4 * n) ∙ ap (λ m. q * m) (sixteens n) in
    let whole : 2 ^ 45 ≡ 8 ^ r * 8 ^ (15 - r) =
    (let sum : 15 ≡ r + (15 - r) = omega (arith, h.coarse) in ap (λ m. 8 ^ m) sum) ∙ pow-add 8 r (15 - r) in
    let k = (head_of c * 8 ^ r + (number_from_digits 8 c.digits + 1)) * q in
    let next : number_of c + 1 ≡ k * p =
    next_number c h ∙ ap (λ m. head_of c * m + (number_from_digits 8 c.digits + 1) * 8 ^ (15 - r)) whole
    ∙ ap (λ m. head_of c * (8 ^ r * m) + (number_from_digits 8 c.digits + 1) * m) low ∙ grind arith in
    one_less (number_of c) k p some next
  where
    one_less : (v k p : ℕ) → 0 < p → v + 1 ≡ k * p → v % p ≡ p - 1
    one_less v zero p some e = absurd (omega (arith, e))
    one_less v (suc k) p some e =
        let split : v ≡ k * p + (p - 1) = omega (arith, e, some) in
        ap (λ m. m % p) split ∙ mod-mul-add k p (p - 1) (omega (arith, some))

parts : (w v m n : ℕ) → m + (w + n) ≡ 15
    → fifteen v
    ≡ map digit_char (last_digits 16 m (v / 16 ^ (w + n)))
    ++ (map digit_char (last_digits 16 w (v / 16 ^ n)) ++ map digit_char (last_digits 16 n v))
parts w v m n sum =
    ap (λ k. map digit_char (last_digits 16 k v)) (sym sum)
    ∙ ap (map digit_char) (last_digits-ancestor_at 16 m (w + n) v
    ∙ ap (λ ds. last_digits 16 m (v / 16 ^ (w + n)) ++ ds) (last_digits-ancestor_at 16 w n v))
    ∙ map-append digit_char (last_digits 16 m (v / 16 ^ (w + n))) _
    ∙ ap (λ ds. map digit_char (last_digits 16 m (v / 16 ^ (w + n))) ++ ds)
    (map-append digit_char (last_digits 16 w (v / 16 ^ n)) (last_digits 16 n v))

-- the three parts of a text of fifteen digits
take_front : (w v m n : ℕ) → m + (w + n) ≡ 15
    → take m (fifteen v) ≡ map digit_char (last_digits 16 m (v / 16 ^ (w + n)))
take_front w v m n sum =
    let front = map digit_char (last_digits 16 m (v / 16 ^ (w + n))) in
    let size : length front ≡ m =
    length-map (last_digits 16 m (v / 16 ^ (w + n))) digit_char ∙ length-last_digits 16 m (v / 16 ^ (w + n)) in
    ap (take m) (parts w v m n sum)
    ∙ ap
    (λ k. take k (front ++ (map digit_char (last_digits 16 w (v / 16 ^ n)) ++ map digit_char (last_digits 16 n v))))
    (sym size)
    ∙ take-append_seam front _

drop_front : (w v m n : ℕ) → m + (w + n) ≡ 15 → drop w (drop m (fifteen v)) ≡ map digit_char (last_digits 16 n v)
drop_front w v m n sum =
    let front = map digit_char (last_digits 16 m (v / 16 ^ (w + n))) in
    let some = map digit_char (last_digits 16 w (v / 16 ^ n)) in
    let rest = map digit_char (last_digits 16 n v) in
    let size : length front ≡ m =
    length-map (last_digits 16 m (v / 16 ^ (w + n))) digit_char ∙ length-last_digits 16 m (v / 16 ^ (w + n)) in
    let size_two : length some ≡ w =
    length-map (last_digits 16 w (v / 16 ^ n)) digit_char ∙ length-last_digits 16 w (v / 16 ^ n) in
    let first : drop m (fifteen v) ≡ some ++ rest =
    ap (drop m) (parts w v m n sum) ∙ ap (λ k. drop k (front ++ (some ++ rest))) (sym size)
    ∙ drop-append_seam front (some ++ rest) in
    ap (drop w) first ∙ ap (λ k. drop k (some ++ rest)) (sym size_two) ∙ drop-append_seam some rest

-- a text whose number agrees with another above w digits and below them is the other but for these
some_differ : (c d : Address) (w m n : ℕ) → IsCell c → IsCell d → m + (w + n) ≡ 15
    → number_of d / 16 ^ (w + n) ≡ number_of c / 16 ^ (w + n) → number_of d % 16 ^ n ≡ number_of c % 16 ^ n
    → text_of (number_of d)
    ≡ take m (text_of (number_of c))
    ++ (map digit_char (last_digits 16 w (number_of d / 16 ^ n)) ++ drop w (drop m (text_of (number_of c))))
some_differ c d w m n h k sum high ones =
    let v = number_of c in
    let x = number_of d in
    let low : last_digits 16 n x ≡ last_digits 16 n v =
    sym (low-last_digits 16 n x (lit< tt)) ∙ ap (last_digits 16 n) ones ∙ low-last_digits 16 n v (lit< tt) in
    let middle = map digit_char (last_digits 16 w (x / 16 ^ n)) in
    cell_text d k ∙ parts w x m n sum
    ∙ ap (λ l. map digit_char (last_digits 16 m l) ++ (middle ++ map digit_char (last_digits 16 n x))) high
    ∙ ap (λ l. map digit_char (last_digits 16 m (v / 16 ^ (w + n))) ++ (middle ++ map digit_char l)) low
    ∙ ap (λ l. l ++ (middle ++ map digit_char (last_digits 16 n v))) (sym (take_front w v m n sum))
    ∙ ap (λ l. take m (fifteen v) ++ (middle ++ l)) (sym (drop_front w v m n sum))
    ∙ ap (λ l. take m l ++ (middle ++ drop w (drop m l))) (sym (cell_text c h))

-- so is its line
pub some_line_differs : (c d : Address) (w m n : ℕ) → IsCell c → IsCell d → m + (w + n) ≡ 15
    → number_of d / 16 ^ (w + n) ≡ number_of c / 16 ^ (w + n) → number_of d % 16 ^ n ≡ number_of c % 16 ^ n
    → take m (text_of (number_of c) ++ 10 ∷ [])
    ++ (map digit_char (last_digits 16 w (number_of d / 16 ^ n))
    ++ drop w (drop m (text_of (number_of c) ++ 10 ∷ [])))
    ≡ text_of (number_of d) ++ 10 ∷ []
some_line_differs c d w m n h k sum high ones =
    let t = text_of (number_of c) in
    let middle = map digit_char (last_digits 16 w (number_of d / 16 ^ n)) in
    let size : length t ≡ 15 = length-text c h in
    let left : length (drop m t) ≡ 15 - m = length-drop m t ∙ ap (λ l. l - m) size in
    let front : take m (t ++ 10 ∷ []) ≡ take m t = take-append-le m t (10 ∷ []) (omega (arith, size, sum)) in
    let back : drop w (drop m (t ++ 10 ∷ [])) ≡ drop w (drop m t) ++ 10 ∷ [] =
    ap (drop w) (drop-append-le m t (10 ∷ []) (omega (arith, size, sum)))
    ∙ drop-append-le w (drop m t) (10 ∷ []) (omega (arith, left, sum)) in
    rw (front, back) (ap (λ l. take m t ++ l) (sym (append_assoc middle (drop w (drop m t)) (10 ∷ [])))
    ∙ sym (append_assoc (take m t) (middle ++ drop w (drop m t)) (10 ∷ []))
    ∙ ap (λ l. l ++ 10 ∷ []) (sym (some_differ c d w m n h k sum high ones)))

-- the text comes before the line feed
pub text_before : (bytes front text : List ℕ) (at : ℕ) → length front ≡ at → length text ≡ 15
    → take (at + 16) bytes ≡ front ++ (text ++ 10 ∷ []) → take (at + 15) bytes ≡ front ++ text
text_before bytes front text at before size line =
    let held : length (take (at + 16) bytes) ≡ at + 16 =
    ap length line ∙ length-append front (text ++ 10 ∷ [])
    ∙ omega (arith, length-append text (10 ∷ []), before, size) in
    let all : at + 15 ≡ length front + (length text + 0) = omega (arith, before, size) in
    ap (take (at + 15)) (sym (take-append-drop (at + 16) bytes))
    ∙ take-append-le (at + 15) (take (at + 16) bytes) (drop (at + 16) bytes) (omega (arith, held))
    ∙ ap (take (at + 15)) line
    ∙ ap (λ l. take l (front ++ (text ++ 10 ∷ []))) all ∙ take-append-add front (text ++ 10 ∷ []) (length text + 0)
    ∙ ap (λ l. front ++ l) (take-append-add text (10 ∷ []) 0 ∙ append-nil text)

-- ---- sixteen bytes that are put at a place, and then some of them anew

-- two elements that are set at a place
set_two : {A : Type 0} (l : List A) (p : ℕ) (x y : A) → p + 2 ≤ length l
    → set (set l p x) (p + 1) y ≡ take p l ++ (x ∷ y ∷ drop 2 (drop p l))
set_two [] p x y room = absurd (omega (arith, room))
set_two (a ∷ []) zero x y room = absurd (omega (arith, room))
set_two (a ∷ b ∷ l) zero x y room = refl
set_two (a ∷ l) (suc p) x y room =
    let next : suc p + 1 ≡ suc (p + 1) = omega arith in
    rw next (ap (λ r. a ∷ r) (set_two l p x y (omega (arith, room))))

put_twice : (bytes line part : List ℕ) (w at m n i j p k : ℕ) → length line ≡ 16 → length part ≡ w → m + (w + n) ≡ 16
    → at + 16 ≤ length bytes
    → i ≡ 16 → p ≡ at + m → j ≡ w → k ≡ at + 16
    → take k (take p (take at bytes ++ (line ++ drop i (drop at bytes)))
    ++ (part ++ drop j (drop p (take at bytes ++ (line ++ drop i (drop at bytes))))))
    ≡ take at bytes ++ (take m line ++ (part ++ drop w (drop m line)))
put_twice bytes line part w at m n i j p k size pair sum room i_is p_is j_is k_is =
    let a = take at bytes in
    let r = drop i (drop at bytes) in
    let before : length a ≡ at = length-take-le at bytes (omega (arith, room)) in
    let place : p ≡ length a + m = omega (arith, p_is, before) in
    let front : take p (a ++ (line ++ r)) ≡ a ++ take m line =
    ap (λ l. take l (a ++ (line ++ r))) place ∙ take-append-add a (line ++ r) m
    ∙ ap (λ l. a ++ l) (take-append-le m line r (omega (arith, size, sum))) in
    let d = drop w (drop m line) in
    let left : length (drop m line) ≡ 16 - m = length-drop m line ∙ ap (λ l. l - m) size in
    let left_two : length d ≡ n = length-drop w (drop m line) ∙ ap (λ l. l - w) left ∙ omega (arith, sum) in
    let back : drop j (drop p (a ++ (line ++ r))) ≡ d ++ r =
    ap (λ l. drop l (drop p (a ++ (line ++ r)))) j_is ∙ ap (λ l. drop w (drop l (a ++ (line ++ r)))) place
    ∙ ap (drop w) (drop-append-add a (line ++ r) m ∙ drop-append-le m line r (omega (arith, size, sum)))
    ∙ drop-append-le w (drop m line) r (omega (arith, left, sum)) in
    let t = take m line in
    let t_size : length t ≡ m = length-take-le m line (omega (arith, size, sum)) in
    let all : k ≡ length a + (length t + (length part + (length d + 0))) =
    omega (arith, k_is, before, t_size, pair, left_two, sum) in
    rw (front, back)
    (ap (take k) (append_assoc a t (part ++ (d ++ r))) ∙ ap (λ l. take l (a ++ (t ++ (part ++ (d ++ r))))) all
    ∙ take-append-add a (t ++ (part ++ (d ++ r))) (length t + (length part + (length d + 0)))
    ∙ ap (λ l. a ++ l) (take-append-add t (part ++ (d ++ r)) (length part + (length d + 0)))
    ∙ ap (λ l. a ++ (t ++ l))
    (take-append-add part (d ++ r) (length d + 0) ∙ ap (λ l. part ++ l) (take-append-add d r 0 ∙ append-nil d)))

two_of : (part : List ℕ) → length part ≡ 2 → get_or part 0 0 ∷ get_or part 1 0 ∷ [] ≡ part
two_of [] size = absurd (omega (arith, size))
two_of (x ∷ []) size = absurd (omega (arith, size))
two_of (x ∷ y ∷ []) size = refl
two_of (x ∷ y ∷ z ∷ part) size = absurd (omega (arith, size))

-- sixteen bytes at a place, and then two of them anew
pub put_pair : (bytes line part put : List ℕ) (at m n p k : ℕ) → length line ≡ 16 → length part ≡ 2 → m + (2 + n) ≡ 16
    → at + 16 ≤ length bytes → put ≡ take at bytes ++ (line ++ drop 16 (drop at bytes)) → p ≡ at + m → k ≡ at + 16
    → take k (set (set put p (get_or part 0 0)) (p + 1) (get_or part 1 0))
    ≡ take at bytes ++ (take m line ++ (part ++ drop 2 (drop m line)))
put_pair bytes line part put at m n p k size pair sum room put_is p_is k_is =
    let a = take at bytes in
    let r = drop 16 (drop at bytes) in
    let l = a ++ (line ++ r) in
    let before : length a ≡ at = length-take-le at bytes (omega (arith, room)) in
    let within : p + 2 ≤ length l =
    omega (arith, length-append a (line ++ r), length-append line r, before, size, p_is, sum) in
    ap (λ q. take k (set (set q p (get_or part 0 0)) (p + 1) (get_or part 1 0))) put_is
    ∙ ap (take k) (set_two l p (get_or part 0 0) (get_or part 1 0) within
    ∙ ap (λ e. take p l ++ (e ++ drop 2 (drop p l))) (two_of part pair))
    ∙ put_twice bytes line part 2 at m n 16 2 p k size pair sum room refl p_is refl k_is

pub put_once : (bytes line put : List ℕ) (at k : ℕ) → length line ≡ 16 → at + 16 ≤ length bytes
    → put ≡ take at bytes ++ (line ++ drop 16 (drop at bytes)) → k ≡ at + 16
    → take k put ≡ take at bytes ++ line
put_once bytes line put at k size room put_is k_is =
    let a = take at bytes in
    let r = drop 16 (drop at bytes) in
    let before : length a ≡ at = length-take-le at bytes (omega (arith, room)) in
    let all : k ≡ length a + (length line + 0) = omega (arith, k_is, before, size) in
    ap (take k) put_is ∙ ap (λ l. take l (a ++ (line ++ r))) all ∙ take-append-add a (line ++ r) (length line + 0)
    ∙ ap (λ l. a ++ l) (take-append-add line r 0 ∙ append-nil line)
