-- The carry tables, entry by entry.
use Rattle.std.proofs.Common.{◌≡◌, ℕ, zero, suc, ◌-◌, ◌%◌, ◌≤◌, nat_lt, true, ltb-true, arith, sym, ap, ◌∙◌, refl, inl, inr, Option, Some, None, [], slice_index_or}
use Rattle.std.proofs.lemmas.Bool.{cases_eq}
use Rattle.h3_lattice.specs.declared.carries.TheConstants.{CARRIES}
use Rattle.h3_directions.specs.declared.direction.Direction.{Direction}
use Rattle.h3_directions.specs.declared.direction.Direction.TheVariants.{K, J, JK, I, IK, IJ}
use Rattle.h3_lattice.specs.declared.class.Class.{Class}
use Rattle.h3_lattice.specs.declared.class.Class.TheVariants.{Two, Three}
use Rattle.h3_directions.specs.Direction.{value_of}
use Rattle.h3_lattice.specs.Class.{carried_to, class_at, coarser_class, row_of, row_to, IsCarry, IsOnlyCarry, IsSumIn}
use Rattle.h3_directions.specs.Eisenstein.{Eisenstein}
use Rattle.h3_lattice.proofs.DivisionLaws.{one_digit}

abbrev pub EachDirection : (Direction → Type 0) → Type 0
EachDirection P = P K × P J × P JK × P I × P IK × P IJ

pub at_direction : (P : Direction → Type 0) → EachDirection P → (d : Direction) → P d
at_direction P h K = h.0
at_direction P h J = h.1
at_direction P h JK = h.2
at_direction P h I = h.3
at_direction P h IK = h.4
at_direction P h IJ = h.5

-- the digit that is left of a digit and a direction, and the row of what is carried
abbrev pub left_of : Class → ℕ → Direction → ℕ
left_of c digit d = slice_index_or (slice_index_or CARRIES.left (row_of c d) []) digit 0

abbrev pub row_after : Class → ℕ → Direction → ℕ
row_after c digit d = slice_index_or (slice_index_or CARRIES.carried (row_of c d) []) digit 0

abbrev IsEntry : Class → ℕ → Direction → Type 0
IsEntry c digit d =
    (nat_lt (left_of c digit d) 7 ≡ true)
    × IsCarry c digit d (value_of (carried_to c (row_after c digit d))) (left_of c digit d)
    × (row_after c digit d ≡ row_to c (carried_to c (row_after c digit d)))

-- by computation, row by row
pub entry_is : (c : Class) (digit : ℕ) (d : Direction) → digit ≤ 6 → IsEntry c digit d
entry_is Three zero d h = at_direction (IsEntry Three 0) row d
  where
    row : EachDirection (IsEntry Three 0)
    row = assumption
entry_is Three (suc zero) d h = at_direction (IsEntry Three 1) row d
  where
    row : EachDirection (IsEntry Three 1)
    row = assumption
entry_is Three (suc (suc zero)) d h = at_direction (IsEntry Three 2) row d
  where
    row : EachDirection (IsEntry Three 2)
    row = assumption
entry_is Three (suc (suc (suc zero))) d h = at_direction (IsEntry Three 3) row d
  where
    row : EachDirection (IsEntry Three 3)
    row = assumption
entry_is Three (suc (suc (suc (suc zero)))) d h = at_direction (IsEntry Three 4) row d
  where
    row : EachDirection (IsEntry Three 4)
    row = assumption
entry_is Three (suc (suc (suc (suc (suc zero))))) d h = at_direction (IsEntry Three 5) row d
  where
    row : EachDirection (IsEntry Three 5)
    row = assumption
entry_is Three (suc (suc (suc (suc (suc (suc zero)))))) d h = at_direction (IsEntry Three 6) row d
  where
    row : EachDirection (IsEntry Three 6)
    row = assumption
entry_is Three (suc (suc (suc (suc (suc (suc (suc n))))))) d h = absurd (omega arith)
entry_is Two zero d h = at_direction (IsEntry Two 0) row d
  where
    row : EachDirection (IsEntry Two 0)
    row = assumption
entry_is Two (suc zero) d h = at_direction (IsEntry Two 1) row d
  where
    row : EachDirection (IsEntry Two 1)
    row = assumption
entry_is Two (suc (suc zero)) d h = at_direction (IsEntry Two 2) row d
  where
    row : EachDirection (IsEntry Two 2)
    row = assumption
entry_is Two (suc (suc (suc zero))) d h = at_direction (IsEntry Two 3) row d
  where
    row : EachDirection (IsEntry Two 3)
    row = assumption
entry_is Two (suc (suc (suc (suc zero)))) d h = at_direction (IsEntry Two 4) row d
  where
    row : EachDirection (IsEntry Two 4)
    row = assumption
entry_is Two (suc (suc (suc (suc (suc zero))))) d h = at_direction (IsEntry Two 5) row d
  where
    row : EachDirection (IsEntry Two 5)
    row = assumption
entry_is Two (suc (suc (suc (suc (suc (suc zero)))))) d h = at_direction (IsEntry Two 6) row d
  where
    row : EachDirection (IsEntry Two 6)
    row = assumption
entry_is Two (suc (suc (suc (suc (suc (suc (suc n))))))) d h = absurd (omega arith)

pub entry_sum : (c : Class) (digit : ℕ) (d : Direction) → digit ≤ 6
    → IsSumIn c digit d (left_of c digit d) (row_after c digit d)
entry_sum c digit d h =
    let e = entry_is c digit d h in
    let small = ltb-true _ 7 e.0 in
    record { small = omega (arith, small); carry = e.1; is = e.2 }

pub sum_only : (c : Class) (digit : ℕ) (d : Direction) (carried : Eisenstein) (left : ℕ) → left ≤ 6
    → IsCarry c digit d carried left → IsOnlyCarry c digit d carried left
sum_only c digit d carried left h is other rest small e =
    one_digit c other carried rest left (omega (arith, small)) (omega (arith, h)) (sym e ∙ is)

-- ---- rows

-- the row 0 is that of nothing
pub none_carried : (c : Class) (row : ℕ) → row ≡ 0 → carried_to c row ≡ None
none_carried Two row e = rw e refl
none_carried Three row e = rw e refl

-- another row is that of a direction
pub record IsCarriedTo (c : Class) (row : ℕ) : Type 0 where
  pub direction : Direction
  pub is : carried_to c row ≡ Some direction
  pub row_is : row ≡ row_of (coarser_class c) direction

pub some_carried : (c : Class) (row : ℕ) → row ≡ row_to c (carried_to c row) → ¬ (row ≡ 0) → IsCarriedTo c row
some_carried c row is some = by (carried_to c row) refl
  where
    by : (o : Option Direction) → carried_to c row ≡ o → IsCarriedTo c row
    by None e = absurd (some (is ∙ ap (row_to c) e))
    by (Some d) e = record { direction = d; is = e; row_is = is ∙ ap (row_to c) e }

pub coarser_at : (r : ℕ) → 1 ≤ r → coarser_class (class_at r) ≡ class_at (r - 1)
coarser_at r some = elim (cases_eq (r % 2) 1) [
  | inl odd ↦ let next : (r - 1) % 2 ≡ 0 = omega (arith, some, odd) in rw (odd, next) refl
  | inr even ↦
      let zero : r % 2 ≡ 0 = omega (arith, even) in
      let next : (r - 1) % 2 ≡ 1 = omega (arith, some, zero) in
      rw (zero, next) refl
]
