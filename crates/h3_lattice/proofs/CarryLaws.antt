-- What is carried, by the entries of the carry tables: it is undone by the opposite direction, and triangles close.
use Rattle.std.proofs.Common.{◌≡◌, ◌≤◌, refl, sym, ap, subst, arith, Option, Some, None, option_map}
use Rattle.h3_directions.specs.declared.direction.Direction.{Direction}
use Rattle.h3_directions.specs.declared.direction.Direction.TheVariants.{K, J, JK, I, IK, IJ}
use Rattle.h3_lattice.specs.declared.class.Class.{Class}
use Rattle.h3_lattice.specs.declared.class.Class.TheVariants.{Two, Three}
use Rattle.h3_directions.specs.Eisenstein.{Eisenstein, product_of, sum_of, zero_point}
use Rattle.h3_directions.specs.Direction.{digit_of, digit_or_zero, digit_value, direction_of, opposite, turned, turned_once, unit_of, value_of}
use Rattle.h3_lattice.specs.Class.{carried_to, multiplier}
use Rattle.h3_lattice.specs.Laws.{Triangle, all_inside, z_across, x_across, y_across, all_across}
use Rattle.h3_lattice.proofs.EntryLaws.{EachDirection, at_direction, entry_sum, left_of, row_after}
use Rattle.h3_lattice.proofs.LinearLaws.{points}

-- the digit that is left, as a direction or the centre, and what is carried
abbrev pub carried : Class → Option Direction → Direction → Option Direction × Option Direction
carried c x d = (direction_of (left_of c (digit_or_zero x) d), carried_to c (row_after c (digit_or_zero x) d))

abbrev pub EachEntry : (Class → Option Direction → Direction → Type 0) → Type 0
EachEntry P =
    EachDirection (P Two None) × EachDirection (λ d. EachDirection (P Two (Some d))) × EachDirection (P Three None)
    × EachDirection (λ d. EachDirection (P Three (Some d)))

pub at_entry : (P : Class → Option Direction → Direction → Type 0) → EachEntry P
    → (c : Class) (x : Option Direction) (d : Direction) → P c x d
at_entry P h Two None d = at_direction (P Two None) h.0 d
at_entry P h Two (Some e) d = at_direction (P Two (Some e)) (at_direction (λ e. EachDirection (P Two (Some e))) h.1 e) d
at_entry P h Three None d = at_direction (P Three None) h.2 d
at_entry P h Three (Some e) d =
    at_direction (P Three (Some e)) (at_direction (λ e. EachDirection (P Three (Some e))) h.3 e) d

digit_small : (x : Option Direction) → digit_or_zero x ≤ 6
digit_small None = omega arith
digit_small (Some d) =
    at_direction (λ d. digit_of d ≤ 6) (omega arith, omega arith, omega arith, omega arith, omega arith, omega arith) d

digit_value-digit : (x : Option Direction) → digit_value (digit_or_zero x) ≡ value_of x
digit_value-digit None = refl
digit_value-digit (Some d) =
    at_direction (λ d. digit_value (digit_of d) ≡ unit_of d) (refl, refl, refl, refl, refl, refl) d

pub carried_is : (c : Class) (x : Option Direction) (d : Direction)
    → sum_of (value_of x) (unit_of d)
    ≡ sum_of (product_of (multiplier c) (value_of (carried c x d).1)) (value_of (carried c x d).0)
carried_is c x d = rw (sym (digit_value-digit x)) (entry_sum c (digit_or_zero x) d (digit_small x)).carry

-- what is carried may be nothing
abbrev pub carried_into : Class → Option Direction → Option Direction → Option Direction × Option Direction
carried_into c x None = (x, None)
carried_into c x (Some d) = carried c x d

nothing_carried : (c : Class) (v : Eisenstein) → sum_of v zero_point ≡ sum_of (product_of (multiplier c) zero_point) v
nothing_carried Three v = omega (arith, points)
nothing_carried Two v = omega (arith, points)

pub carried_into_is : (c : Class) (x p : Option Direction)
    → sum_of (value_of x) (value_of p)
    ≡ sum_of (product_of (multiplier c) (value_of (carried_into c x p).1)) (value_of (carried_into c x p).0)
carried_into_is c x None = nothing_carried c (value_of x)
carried_into_is c x (Some d) = carried_is c x d

-- ---- triangles

abbrev ClosesTriangle : Class → Option Direction → Direction → Type 0
ClosesTriangle c x d =
    let r1 = carried c x d in
    let r2 = carried c x (turned_once d) in
    let r3 = carried c r1.0 (turned 2 d) in
    (r3.0 ≡ r2.0) × Triangle r1.1 r3.1 r2.1

closes_triangle : (c : Class) (x : Option Direction) (d : Direction) → ClosesTriangle c x d
closes_triangle =
    at_entry ClosesTriangle (assumption (
      all_inside,
      z_across K,
      z_across J,
      z_across JK,
      z_across I,
      z_across IK,
      z_across IJ,
      x_across K,
      x_across J,
      x_across JK,
      x_across I,
      x_across IK,
      x_across IJ,
      y_across K,
      y_across J,
      y_across JK,
      y_across I,
      y_across IK,
      y_across IJ,
      all_across K,
      all_across J,
      all_across JK,
      all_across I,
      all_across IK,
      all_across IJ,
    ))

abbrev IsUndone : Class → Option Direction → Direction → Type 0
IsUndone c x d = carried c (carried c x d).0 (opposite d) ≡ (x, option_map opposite (carried c x d).1)

carried-opposite : (c : Class) (x : Option Direction) (d : Direction)
    → carried c (carried c x d).0 (opposite d) ≡ (x, option_map opposite (carried c x d).1)
carried-opposite = at_entry IsUndone assumption

z_outside : (u : Option Direction) → Triangle None u u
z_outside None = all_inside
z_outside (Some e) = z_across e

x_outside : (u : Option Direction) → Triangle u None u
x_outside None = all_inside
x_outside (Some e) = x_across e

y_outside : (u : Option Direction) → Triangle u (option_map opposite u) None
y_outside None = all_inside
y_outside (Some e) = y_across e

-- what a triangle carries into a digit, it carries out of it as a triangle
pub record CarriesTriangle (c : Class) (x u t v : Option Direction) : Type 0 where
  pub same : (carried_into c (carried_into c x u).0 t).0 ≡ (carried_into c x v).0
  pub form : Triangle (carried_into c x u).1 (carried_into c (carried_into c x u).0 t).1 (carried_into c x v).1

pub carries_triangle : (c : Class) (x u t v : Option Direction) → Triangle u t v → CarriesTriangle c x u t v
carries_triangle c x u t v all_inside = record { same = refl; form = all_inside }
carries_triangle c x u t v (z_across e) = record { same = refl; form = z_outside (carried c x e).1 }
carries_triangle c x u t v (x_across e) = record { same = refl; form = x_outside (carried c x e).1 }
carries_triangle c x u t v (y_across e) =
    let back = carried-opposite c x e in
    record {
      same = ap (λ (r : Option Direction × Option Direction). r.0) back;
      form =
          subst (λ (k : Option Direction). Triangle (carried c x e).1 k None)
          (sym (ap (λ (r : Option Direction × Option Direction). r.1) back)) (y_outside (carried c x e).1);
    }
carries_triangle c x u t v (all_across e) = let h = closes_triangle c x e in record { same = h.0; form = h.1 }
