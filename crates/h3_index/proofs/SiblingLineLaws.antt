-- The lines of the children of one cell.
use Rattle.std.specs.Char.{digit_char}
use Rattle.std.specs.Int.Digits.{number_from_digits}
use Rattle.std.specs.List.{flat_map}
use Rattle.std.proofs.Common.{ℕ, zero, suc, ◌≡◌, ◌≢◌, ◌+◌, ◌-◌, ◌*◌, ◌/◌, ◌%◌, ◌^◌, ◌<◌, ◌≤◌, ◌==◌, List, [], ◌∷◌, ◌++◌, length, map, Bool, true, false, ◌&&◌, if◌then◌else◌, refl, arith, sym, ap, ◌∙◌, length-append, append-nil, take, drop, get_or, eqb-true, bit_and, lit<}
use Rattle.std.proofs.Math.Nat.{div-div-eq-div-mul, one-le-pow, pow-suc}
use Rattle.std.proofs.lemmas.Bool.{agree_below_at}
use Rattle.std.proofs.lemmas.Bool.Decides.{nat_tests}
use Rattle.std.proofs.lemmas.Int.Digits.{number_push}
use Rattle.std.proofs.lemmas.List.{flat_map_more}
use Rattle.std.proofs.lemmas.List.Folds.{flat_map-map}
use Rattle.std.proofs.lemmas.Nat.{and_mask, div-mul-add, mod_below, mul-le, pow-add}
use Rattle.h3_index.specs.Cell.{Address, IsCell, is_pentagon, number_of}
use Rattle.h3_index.specs.Descendants.{along, child, children, descendants}
use Rattle.h3_index.specs.Digits.{last_digits}
use Rattle.h3_index.specs.Paths.{paths, steps}
use Rattle.h3_index.specs.Text.{text_of}
use Rattle.h3_index.proofs.CellLineLaws.{line_made, ones_below, some_line_differs}
use Rattle.h3_index.proofs.DigitsLaws.{eights, low-last_digits, sixteens}
use Rattle.h3_index.proofs.MoveLaws.{child_cell, next_number}

-- ---- the children of a cell, by their digits

by_kind : (p : Address) (b : Bool) → map (along p) (paths b 1) ≡ map (child p) (steps b)
unfolding paths
by_kind p true = refl
by_kind p false = refl

pub children_are : (p : Address) → children p ≡ map (child p) (steps (is_pentagon p))
unfolding descendants
children_are p =
    let one : length p.digits + 1 - length p.digits ≡ 1 = omega arith in
    rw one (by_kind p (is_pentagon p))

-- the digits below a number that children have
abbrev pub steps_below : Bool → ℕ → List ℕ
steps_below pentagon zero = []
steps_below pentagon (suc d) = steps_below pentagon d ++ (if pentagon && d == 1 then [] else d ∷ [])

pub steps_more : (p : Bool) (d : ℕ) → 2 ≤ d → steps_below p (d + 1) ≡ steps_below p d ++ d ∷ []
steps_more false d h = let next : d + 1 ≡ suc d = omega arith in rw next refl
steps_more true d h =
    let next : d + 1 ≡ suc d = omega arith in
    let other : (d == 1) ≡ false = grind (arith, nat_tests) in
    rw (next, other) refl

pub all_steps : (p : Bool) → steps_below p 7 ≡ steps p
all_steps true = refl
all_steps false = refl

pub few_steps : (p : Bool) (d : ℕ) → length (steps_below p d) ≤ d
few_steps p zero = omega arith
few_steps p (suc d) = one_more (p && d == 1) (few_steps p d)
  where
    one_more : (b : Bool) → length (steps_below p d) ≤ d
        → length (steps_below p d ++ (if b then [] else d ∷ [])) ≤ suc d
    one_more true h = omega (arith, h, length-append {A = ℕ} (steps_below p d) [])
    one_more false h = omega (arith, h, length-append (steps_below p d) (d ∷ []))

-- ---- they agree above their own digits

-- the digits of a child up to its own, and before them what all cells of its base cell and resolution share
abbrev digits_down : Address → ℕ → ℕ
digits_down p d =
    ((2 ^ 14 + (length p.digits + 1) * 2 ^ 7 + p.base) * 8 ^ length p.digits + number_from_digits 8 p.digits) * 8 + d

next_child : (p : Address) (d : ℕ) → IsCell (child p d)
    → number_of (child p d) + 1 ≡ (digits_down p d + 1) * 8 ^ (14 - length p.digits)
next_child p d h =
    let k = length p.digits in
    let size : length (p.digits ++ d ∷ []) ≡ k + 1 = length-append p.digits (d ∷ []) in
    let less : 15 - (k + 1) ≡ 14 - k = omega arith in
    let q = 8 ^ (14 - k) in
    let power : 8 ^ (15 - k) ≡ q * 8 =
    (let e : 15 - k ≡ suc (14 - k) = omega (arith, size, h.coarse) in ap (λ n. 8 ^ n) e) ∙ pow-suc 8 (14 - k) in
    let whole : 2 ^ 45 ≡ 8 ^ k * (q * 8) =
    (let e : 15 ≡ k + (15 - k) = omega (arith, size, h.coarse) in
    ap (λ n. 8 ^ n) e) ∙ pow-add 8 k (15 - k) ∙ ap (λ n. 8 ^ k * n) power in
    let v = number_from_digits 8 p.digits in
    let a = 2 ^ 14 + (k + 1) * 2 ^ 7 + p.base in
    let next : number_of (child p d) + 1 ≡ (2 ^ 14 + (k + 1) * 2 ^ 7 + p.base) * 2 ^ 45 + (v * 8 + d + 1) * q =
    rw (size, less, number_push 8 p.digits d) at (next_number (child p d) h) in
    next ∙ ap (λ n. a * n + (v * 8 + d + 1) * q) whole ∙ spread a (8 ^ k) v q d
  where
    spread : (a r v q d : ℕ) → a * (r * (q * 8)) + (v * 8 + d + 1) * q ≡ ((a * r + v) * 8 + d + 1) * q
    spread a r v q d = grind arith

-- the number of a child without its own digit and those after it
above_child : (p : Address) (d : ℕ) → IsCell (child p d) → d < 7
    → number_of (child p d) / 8 ^ (15 - length p.digits)
    ≡ (2 ^ 14 + (length p.digits + 1) * 2 ^ 7 + p.base) * 8 ^ length p.digits + number_from_digits 8 p.digits
above_child p d h small =
    let k = length p.digits in
    let size : length (p.digits ++ d ∷ []) ≡ k + 1 = length-append p.digits (d ∷ []) in
    let q = 8 ^ (14 - k) in
    let some : 1 ≤ q = one-le-pow (14 - k) 8 (lit< tt) in
    let power : 8 ^ (15 - k) ≡ q * 8 =
    (let e : 15 - k ≡ suc (14 - k) = omega (arith, size, h.coarse) in ap (λ n. 8 ^ n) e) ∙ pow-suc 8 (14 - k) in
    let most : d * q ≤ 6 * q = mul-le d q 6 q (omega (arith, small)) (omega arith) in
    rw power (below ((2 ^ 14 + (k + 1) * 2 ^ 7 + p.base) * 8 ^ k + number_from_digits 8 p.digits) q
    (number_of (child p d)) d most some (next_child p d h))
  where
    below : (x q n d : ℕ) → d * q ≤ 6 * q → 1 ≤ q → n + 1 ≡ (x * 8 + d + 1) * q → n / (q * 8) ≡ x
    below x q n d most some e =
        let spread : (x * 8 + d + 1) * q ≡ x * (q * 8) + (d * q + q) = grind arith in
        let number : n ≡ x * (q * 8) + (d * q + q - 1) = omega (arith, e, spread, some) in
        ap (λ m. m / (q * 8)) number ∙ div-mul-add x (q * 8) (d * q + q - 1) (omega (arith, most, some))

-- how many bits come after a child's own digit, and how many hexadecimal digits after the two that hold it
abbrev pub bits_after : Address → ℕ
bits_after p = 3 * (14 - length p.digits)

-- what is left of a child's number without these is a byte below what all children share
byte_child : (p : Address) (d : ℕ) → IsCell (child p d)
    → number_of (child p d) / 16 ^ (bits_after p / 4) ≡ (digits_down p d + 1) * 2 ^ (bits_after p % 4) - 1
byte_child p d h =
    let b = bits_after p in
    let split : b ≡ b % 4 + 4 * (b / 4) = omega arith in
    let power : 8 ^ (14 - length p.digits) ≡ 2 ^ (b % 4) * 16 ^ (b / 4) =
    sym (eights (14 - length p.digits)) ∙ ap (λ m. 2 ^ m) split ∙ pow-add 2 (b % 4) (4 * (b / 4))
    ∙ ap (λ m. 2 ^ (b % 4) * m) (sixteens (b / 4)) in
    divided (digits_down p d + 1) (2 ^ (b % 4)) (16 ^ (b / 4)) (number_of (child p d)) (omega arith)
    (one-le-pow (b % 4) 2 (lit< tt)) (one-le-pow (b / 4) 16 (lit< tt))
    (next_child p d h ∙ ap (λ m. (digits_down p d + 1) * m) power)
  where
    divided : (x s t n : ℕ) → 1 ≤ x → 1 ≤ s → 1 ≤ t → n + 1 ≡ x * (s * t) → n / t ≡ x * s - 1
    divided x s t n one two three e =
        let some : 1 ≤ x * s = mul-le 1 1 x s one two in
        let spread : (x * s - 1) * t + t ≡ x * (s * t) = whole (x * s) t some ∙ turn x s t in
        let number : n ≡ (x * s - 1) * t + (t - 1) = omega (arith, e, spread, three) in
        ap (λ m. m / t) number ∙ div-mul-add (x * s - 1) t (t - 1) (omega (arith, three))
      where
        whole : (y t : ℕ) → 1 ≤ y → (y - 1) * t + t ≡ y * t
        whole zero t h = absurd (omega (arith, h))
        whole (suc y) t h = let e : suc y - 1 ≡ y = omega arith in rw e (more y t)
          where
            more : (y t : ℕ) → y * t + t ≡ suc y * t
            more y t = grind arith

        turn : (x s t : ℕ) → x * s * t ≡ x * (s * t)
        turn x s t = grind arith

steps_up : (o x d : ℕ) → o < 4 → d < 7
    → ((x * 8 + d + 1) * 2 ^ o - 1) % 256 ≡ ((x * 8 + 0 + 1) * 2 ^ o - 1) % 256 + d * 2 ^ o
steps_up zero x d h small = omega (arith, small)
steps_up (suc zero) x d h small = omega (arith, small)
steps_up (suc (suc zero)) x d h small = omega (arith, small)
steps_up (suc (suc (suc zero))) x d h small = omega (arith, small)
steps_up (suc (suc (suc (suc o)))) x d h small = absurd (omega (arith, h))

-- this byte is that of the first child and as many steps as its digit says
pub sibling_byte : (p : Address) (d : ℕ) → IsCell (child p 0) → IsCell (child p d) → d < 7
    → number_of (child p d) / 16 ^ (bits_after p / 4) % 256
    ≡ number_of (child p 0) / 16 ^ (bits_after p / 4) % 256 + d * 2 ^ (bits_after p % 4)
sibling_byte p d first other small =
    let x = (2 ^ 14 + (length p.digits + 1) * 2 ^ 7 + p.base) * 8 ^ length p.digits + number_from_digits 8 p.digits in
    ap (λ n. n % 256) (byte_child p d other)
    ∙ steps_up (bits_after p % 4) x d (mod_below (bits_after p) 4 (lit< tt)) small
    ∙ ap (λ n. n % 256 + d * 2 ^ (bits_after p % 4)) (sym (byte_child p 0 first))

-- ---- their lines, one after another

pub line_more : (line : Address → List ℕ) (p : Address) (front bytes : List ℕ) (ds : List ℕ) (d : ℕ)
    → bytes ≡ front ++ flat_map (λ e. line (child p e)) ds
    → bytes ++ line (child p d) ≡ front ++ flat_map (λ e. line (child p e)) (ds ++ d ∷ [])
line_more line p front bytes ds d is =
    ap (λ l. l ++ line (child p d)) is ∙ flat_map_more (λ e. line (child p e)) front ds d

pub lines_whole : (line : Address → List ℕ) (p : Address)
    → flat_map (λ e. line (child p e)) (steps_below (is_pentagon p) 7) ≡ flat_map line (children p)
lines_whole line p =
    ap (flat_map (λ e. line (child p e))) (all_steps (is_pentagon p))
    ∙ sym (flat_map-map line (child p) (steps (is_pentagon p))) ∙ ap (flat_map line) (sym (children_are p))

count_children : (p : Address) (b : Bool) → length (map (child p) (steps b)) ≡ length (steps_below b 7)
count_children p true = refl
count_children p false = refl

pub length-children : (p : Address) → length (children p) ≡ length (steps_below (is_pentagon p) 7)
length-children p = ap length (children_are p) ∙ count_children p (is_pentagon p)

six_steps : (b : Bool) → 6 ≤ length (steps_below b 7)
six_steps true = omega arith
six_steps false = omega arith

pub six_children : (p : Address) → 6 ≤ length (children p)
six_children p = omega (arith, length-children p, six_steps (is_pentagon p))

-- ---- as they are put

-- the line of a child, from that of the first
pub sibling_line : (p : Address) (d n byte step : ℕ) → IsCell (child p 0) → IsCell (child p d) → d < 7
    → n ≡ bits_after p / 4 → byte ≡ number_of (child p 0) / 16 ^ n % 256 → step ≡ 2 ^ (bits_after p % 4)
    → take (13 - n) (text_of (number_of (child p 0)) ++ 10 ∷ [])
    ++ (map digit_char (last_digits 16 2 (byte + d * step))
    ++ drop 2 (drop (13 - n) (text_of (number_of (child p 0)) ++ 10 ∷ [])))
    ≡ text_of (number_of (child p d)) ++ 10 ∷ []
sibling_line p d n byte step first other small n_is byte_is step_is =
    let k = length p.digits in
    let line = text_of (number_of (child p 0)) ++ 10 ∷ [] in
    let size_d : length (p.digits ++ d ∷ []) ≡ k + 1 = length-append p.digits (d ∷ []) in
    let size_0 : length (p.digits ++ 0 ∷ []) ≡ k + 1 = length-append p.digits (0 ∷ []) in
    let coarse : k < 15 = omega (arith, first.coarse, size_0) in
    let fit : 4 * n ≤ 3 * (14 - k) = omega (arith, n_is) in
    let rest = 4 * (2 + n) - 3 * (15 - k) in
    let split : 4 * (2 + n) ≡ 3 * (15 - k) + rest = omega (arith, n_is, coarse) in
    let power : 16 ^ (2 + n) ≡ 8 ^ (15 - k) * 2 ^ rest =
    sym (sixteens (2 + n)) ∙ ap (λ m. 2 ^ m) split ∙ pow-add 2 (3 * (15 - k)) rest
    ∙ ap (λ m. m * 2 ^ rest) (eights (15 - k)) in
    let up : (v : ℕ) → v / 16 ^ (2 + n) ≡ v / 8 ^ (15 - k) / 2 ^ rest =
    λ v. ap (λ m. v / m) power ∙ sym (div-div-eq-div-mul v (8 ^ (15 - k)) (2 ^ rest)) in
    let high : number_of (child p d) / 16 ^ (2 + n) ≡ number_of (child p 0) / 16 ^ (2 + n) =
    up (number_of (child p d))
    ∙ ap (λ m. m / 2 ^ rest) (above_child p d other small ∙ sym (above_child p 0 first (omega arith)))
    ∙ sym (up (number_of (child p 0))) in
    let ones : number_of (child p d) % 16 ^ n ≡ number_of (child p 0) % 16 ^ n =
    ones_below (child p d) n other (omega (arith, fit, size_d))
    ∙ sym (ones_below (child p 0) n first (omega (arith, fit, size_0))) in
    let byte_d : number_of (child p d) / 16 ^ n % 256 ≡ byte + d * step =
    ap (λ m. number_of (child p d) / 16 ^ m % 256) n_is ∙ sibling_byte p d first other small
    ∙ ap (λ m. number_of (child p 0) / 16 ^ m % 256 + d * 2 ^ (bits_after p % 4)) (sym n_is)
    ∙ ap (λ m. m + d * 2 ^ (bits_after p % 4)) (sym byte_is) ∙ ap (λ m. byte + d * m) (sym step_is) in
    let two : last_digits 16 2 (byte + d * step) ≡ last_digits 16 2 (number_of (child p d) / 16 ^ n) =
    ap (last_digits 16 2) (sym byte_d) ∙ low-last_digits 16 2 (number_of (child p d) / 16 ^ n) (lit< tt) in
    ap (λ l. take (13 - n) line ++ (map digit_char l ++ drop 2 (drop (13 - n) line))) two
    ∙ some_line_differs (child p 0) (child p d) 2 (13 - n) n first other (omega (arith, fit)) high ones

-- the parts that the lines of children are put from
pub record AreParts (p : Address) (line : List ℕ) (n byte step : ℕ) : Type 0 where
  pub valid : IsCell p
  pub coarse : length p.digits < 15
  pub after : n ≡ bits_after p / 4
  pub byte_is : byte ≡ number_of (child p 0) / 16 ^ n % 256
  pub step_is : step ≡ 2 ^ (bits_after p % 4)
  pub line_is : line ≡ text_of (number_of (child p 0)) ++ 10 ∷ []

power_listed : (k : ℕ) → k < 4 → get_or (1 ∷ 2 ∷ 4 ∷ 8 ∷ []) k 0 ≡ 2 ^ k
power_listed k less =
    eqb-true _ _ (agree_below_at (λ k. get_or (1 ∷ 2 ∷ 4 ∷ 8 ∷ []) k 0 == 2 ^ k) (λ _. true) 4 k refl less)

pub parts_made : (p first : Address) (raw r n low : ℕ) (line : List ℕ) → IsCell p → length p.digits < 15
    → r ≡ length p.digits → first ≡ child p 0 → IsCell first → raw ≡ number_of first → n ≡ 3 * (14 - r) / 4
    → low ≡ 3 * (14 - r) % 4
    → line ≡ map digit_char (last_digits 16 15 raw) ++ 10 ∷ []
    → AreParts p line n (bit_and (raw / 2 ^ (4 * n)) 255) (get_or (1 ∷ 2 ∷ 4 ∷ 8 ∷ []) low 0)
parts_made p first raw r n low line h coarse r_is first_is cell raw_is after low_is made =
    let number : raw ≡ number_of (child p 0) = raw_is ∙ ap number_of first_is in
    record {
      valid = h;
      coarse = coarse;
      after = after ∙ ap (λ k. 3 * (14 - k) / 4) r_is;
      byte_is =
          and_mask (raw / 2 ^ (4 * n)) 8 ∙ ap (λ m. raw / m % 256) (sixteens n) ∙ ap (λ m. m / 16 ^ n % 256) number;
      step_is =
          power_listed low (omega (arith, low_is)) ∙ ap (λ k. 2 ^ k) low_is ∙ ap (λ k. 2 ^ (3 * (14 - k) % 4)) r_is;
      line_is = made ∙ line_made first raw cell raw_is ∙ ap (λ c. text_of (number_of c) ++ 10 ∷ []) first_is;
    }

first_cell : (p : Address) (line : List ℕ) (n byte step : ℕ) → AreParts p line n byte step → IsCell (child p 0)
first_cell p line n byte step h = child_cell p 0 h.valid h.coarse (omega arith) (λ _ e. omega (arith, e))

pub byte_small : (p : Address) (line : List ℕ) (n byte step d b : ℕ) → AreParts p line n byte step → d < 7
    → (is_pentagon p ≡ true → d ≢ 1) → b ≡ byte + d * step → b < 256
byte_small p line n byte step d b h small rule is =
    let other = child_cell p d h.valid h.coarse small rule in
    let same : number_of (child p d) / 16 ^ n % 256 ≡ byte + d * step =
    ap (λ m. number_of (child p d) / 16 ^ m % 256) h.after
    ∙ sibling_byte p d (first_cell p line n byte step h) other small
    ∙ ap (λ m. number_of (child p 0) / 16 ^ m % 256 + d * 2 ^ (bits_after p % 4)) (sym h.after)
    ∙ ap (λ m. m + d * 2 ^ (bits_after p % 4)) (sym h.byte_is) ∙ ap (λ m. byte + d * m) (sym h.step_is) in
    let below = mod_below (number_of (child p d) / 16 ^ n) 256 (lit< tt) in
    omega (arith, is, same, below)

pub child_line : (p : Address) (line : List ℕ) (n byte step d b : ℕ) → AreParts p line n byte step → d < 7
    → (is_pentagon p ≡ true → d ≢ 1) → b ≡ byte + d * step
    → take (13 - n) line ++ (map digit_char (last_digits 16 2 b) ++ drop 2 (drop (13 - n) line))
    ≡ text_of (number_of (child p d)) ++ 10 ∷ []
child_line p line n byte step d b h small rule is =
    ap (λ m. take (13 - n) line ++ (map digit_char (last_digits 16 2 m) ++ drop 2 (drop (13 - n) line))) is
    ∙ ap (λ l. take (13 - n) l ++ (map digit_char (last_digits 16 2 (byte + d * step)) ++ drop 2 (drop (13 - n) l)))
    h.line_is
    ∙ sibling_line p d n byte step (first_cell p line n byte step h) (child_cell p d h.valid h.coarse small rule) small
    h.after h.byte_is h.step_is

pub first_put : (line : Address → List ℕ) (p : Address) (b : Bool) (front out : List ℕ) → b ≡ true
    → out ≡ front ++ line (child p 0)
    → out ≡ front ++ flat_map (λ e. line (child p e)) (steps_below b 2)
first_put line p b front out is put = rw is (put ∙ ap (λ l. front ++ l) (sym (append-nil (line (child p 0)))))

pub two_put : (line : Address → List ℕ) (p : Address) (b : Bool) (front middle out : List ℕ) → b ≡ false
    → middle ≡ front ++ line (child p 0) → out ≡ middle ++ line (child p 1)
    → out ≡ front ++ flat_map (λ e. line (child p e)) (steps_below b 2)
two_put line p b front middle out is first put =
    rw is
    (put
    ∙ line_more line p front middle (0 ∷ []) 1
    (first ∙ ap (λ l. front ++ l) (sym (append-nil (line (child p 0))))))

pub first_count : (b : Bool) → b ≡ true → length (steps_below b 2) ≡ 1
first_count b is = rw is refl

pub two_count : (b : Bool) → b ≡ false → length (steps_below b 2) ≡ 2
two_count b is = rw is refl
