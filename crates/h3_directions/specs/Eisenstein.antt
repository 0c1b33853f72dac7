-- Eisenstein integers.
--
-- H3's aperture 7 grid is a lattice of hexagons. Its points are the numbers a + b*w with whole a and b, where w is a
-- third of a full turn: w*w = -1 - w.
use Rattle.std.specs.Prelude.{ℤ, pos, negsuc, ◌+ℤ◌, ◌-ℤ◌, ◌*ℤ◌}

-- Eisenstein: a number a + b*w with w*w = -1 - w
pub record Eisenstein : Type 0 where
  pub a : ℤ
  pub b : ℤ

abbrev pub eisenstein : ℤ → ℤ → Eisenstein
eisenstein a b = record { a = a; b = b }

abbrev pub zero_point : Eisenstein
zero_point = eisenstein (pos 0) (pos 0)

abbrev pub one : Eisenstein
one = eisenstein (pos 1) (pos 0)

-- minus_one: -1
abbrev pub minus_one : Eisenstein
minus_one = eisenstein (negsuc 0) (pos 0)

abbrev pub sum_of : Eisenstein → Eisenstein → Eisenstein
sum_of x y = eisenstein (x.a +ℤ y.a) (x.b +ℤ y.b)

-- product_of x y: a product
--
-- (a + b*w) * (c + d*w) = (ac - bd) + (ad + bc - bd)*w
abbrev pub product_of : Eisenstein → Eisenstein → Eisenstein
product_of x y =
    eisenstein (x.a *ℤ y.a -ℤ x.b *ℤ y.b) ((x.a *ℤ y.b +ℤ x.b *ℤ y.a) -ℤ x.b *ℤ y.b)

-- a*a - a*b + b*b, the square of the distance from 0. Examples alone cite it.
abbrev pub norm : Eisenstein → ℤ
norm x = (x.a *ℤ x.a -ℤ x.a *ℤ x.b) +ℤ x.b *ℤ x.b
