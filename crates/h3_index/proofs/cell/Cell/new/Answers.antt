use Rattle.std.proofs.Common.{◌≡◌, ◌/◌, ◌^◌, ◌<◌, ◌≢◌, ◌==◌, ◌&&◌, nat_lt, arith, refl, ap, ◌∙◌, sym, bit_and, true, false, Bool, ℕ}
use Rattle.std.proofs.lemmas.Nat.{and_mask}
use Rattle.std.proofs.lemmas.Bool.{false≢true}
use Rattle.std.proofs.lemmas.Bool.Decides.{nat_tests}
use Rattle.h3_index.specs.Cell.{Address, IsCell, is_pentagon_base, number_of}
use Rattle.h3_index.specs.CellNumber.{IsCellNumber, base_in, resolution_in, digits_in}
use Rattle.h3_index.specs.DigitTest.{are_digits}
use Rattle.h3_index.proofs.CellTestLaws.{cell_in-some, cell_in-none}
use Rattle.h3_index.proofs.DigitTestLaws.{code_valid, code_of, digits_pass, number_pass}
use Rattle.h3_index.proofs.cell.Cell.new.Goals as goal

base : (m : ℕ) → bit_and (m / 2 ^ 45) 127 ≡ base_in m
base m = and_mask (m / 2 ^ 45) 7

resolution : (m : ℕ) → bit_and (m / 2 ^ 52) 15 ≡ resolution_in m
resolution m = and_mask (m / 2 ^ 52) 4

-- the three tests of a number
abbrev passes : ℕ → Bool → Bool
passes m digits = ((m / 2 ^ 56 == 8) && nat_lt (bit_and (m / 2 ^ 45) 127) 122) && digits

code : (m : ℕ) (r p : Bool) → p ≡ is_pentagon_base (bit_and (m / 2 ^ 45) 127)
    → r ≡ are_digits p (bit_and (m / 2 ^ 52) 15) (digits_in m)
    → digits_pass (is_pentagon_base (base_in m)) (resolution_in m) (digits_in m) ≡ r
code m r p e f =
    number_pass (is_pentagon_base (base_in m)) (resolution_in m) m
    ∙ sym (f ∙ ap (λ b. are_digits b (bit_and (m / 2 ^ 52) 15) (digits_in m)) (e ∙ ap is_pentagon_base (base m))
    ∙ ap (λ n. are_digits (is_pentagon_base (base_in m)) n (digits_in m)) (resolution m))

all_three : (a b d : Bool) → (a && b) && d ≡ true → (a ≡ true) × (b ≡ true) × (d ≡ true)
all_three true true true e = (refl, refl, refl)
all_three true true false e = cc
all_three true false d e = cc
all_three false b d e = cc

equal : (x y : ℕ) → (x == y) ≡ true → x ≡ y
equal x y h = grind (arith, nat_tests)

less : (x y : ℕ) → nat_lt x y ≡ true → x < y
less x y h = grind (arith, nat_tests)

valid : (m : ℕ) (r p : Bool) → p ≡ is_pentagon_base (bit_and (m / 2 ^ 45) 127)
    → r ≡ are_digits p (bit_and (m / 2 ^ 52) 15) (digits_in m) → passes m r ≡ true → IsCellNumber m
valid m r p e f h =
    let each = all_three (m / 2 ^ 56 == 8) (nat_lt (bit_and (m / 2 ^ 45) 127) 122) r h in
    let small : bit_and (m / 2 ^ 45) 127 < 122 = less _ _ each.1 in
    code_valid m (equal _ _ each.0) (rw (base m) at small) (code m r p e f ∙ each.2)

is_equal : (x y : ℕ) → x ≡ y → (x == y) ≡ true
is_equal x y h = grind (arith, nat_tests)

is_less : (x y : ℕ) → x < y → nat_lt x y ≡ true
is_less x y h = grind (arith, nat_tests)

-- no cell has a number that one of the three tests refuses
none : (m : ℕ) (r p : Bool) → p ≡ is_pentagon_base (bit_and (m / 2 ^ 45) 127)
    → r ≡ are_digits p (bit_and (m / 2 ^ 52) 15) (digits_in m) → passes m r ≡ false → (cell : Address) → IsCell cell
    → number_of cell ≢ m
none m r p e f h cell is number =
    let fields = code_of m cell is number in
    let mode = is_equal (m / 2 ^ 56) 8 fields.0 in
    let base_small : bit_and (m / 2 ^ 45) 127 < 122 = rw (base m) fields.1 in
    let small = is_less (bit_and (m / 2 ^ 45) 127) 122 base_small in
    let digits : r ≡ true = sym (code m r p e f) ∙ fields.2 in
    false≢true (sym h ∙ (rw (mode, small, digits) refl))

pub invariant_of-result : goal.invariant_of-result
invariant_of-result c = valid c.args.raw _ _ refl c.has_valid_digits.ensures c.if-is_cell.true

pub returns-then-is_cell-clause-read : goal.returns-then-is_cell-clause-read
returns-then-is_cell-clause-read c =
    sym (cell_in-some _ (valid c.args.raw _ _ refl c.has_valid_digits.ensures c.if-is_cell.true))

pub returns-then-is_cell-clause-accepted : goal.returns-then-is_cell-clause-accepted
returns-then-is_cell-clause-accepted c =
    let h = valid c.args.raw _ _ refl c.has_valid_digits.ensures c.if-is_cell.true in
    (h.valid, h.is)

pub returns-else-is_cell-clause-read : goal.returns-else-is_cell-clause-read
returns-else-is_cell-clause-read c =
    sym (cell_in-none c.args.raw (none c.args.raw _ _ refl c.has_valid_digits.ensures c.if-is_cell.false))

pub returns-else-is_cell-clause-refused : goal.returns-else-is_cell-clause-refused
returns-else-is_cell-clause-refused c = (refl, none c.args.raw _ _ refl c.has_valid_digits.ensures c.if-is_cell.false)
