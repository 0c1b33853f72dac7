-- The definitions at worked values, by computation.
use Rattle.std.specs.Prelude.{◌≡◌, [], ◌∷◌, map, pos, negsuc, Some, None, refl}
use Rattle.h3_directions.specs.declared.direction.Direction.TheVariants.{K, J, JK, I, IK, IJ}
use Rattle.h3_lattice.specs.declared.class.Class.TheVariants.{Two, Three}
use Rattle.h3_directions.specs.Eisenstein.{Eisenstein, eisenstein, minus_one, norm, one, product_of, sum_of, zero_point}
use Rattle.h3_directions.specs.Direction.{digit_of, digit_turned, direction_of, directions, opposite, turned, turning, unit_of}
use Rattle.h3_lattice.specs.Class.{class_at, multiplier, IsCarry}
use Rattle.h3_lattice.specs.Expansion.{place, scaled, sum_from}

-- ---- products and norms

abbrev w : Eisenstein
w = eisenstein (pos 0) (pos 1)

-- w*w = -1 - w
w_squared : product_of w w ≡ eisenstein (negsuc 0) (negsuc 0)
w_squared = refl

multipliers : product_of (multiplier Three) (multiplier Two) ≡ eisenstein (pos 7) (pos 0)
multipliers = refl

norms : map norm (multiplier Three ∷ multiplier Two ∷ unit_of K ∷ unit_of J ∷ one ∷ [])
    ≡ pos 7 ∷ pos 7 ∷ pos 1 ∷ pos 1 ∷ pos 1 ∷ []
norms = refl

classes : map class_at (0 ∷ 1 ∷ 2 ∷ 15 ∷ []) ≡ Two ∷ Three ∷ Two ∷ Three ∷ []
classes = refl

-- ---- the directions, in the order of their digits

digits : map digit_of directions ≡ 1 ∷ 2 ∷ 3 ∷ 4 ∷ 5 ∷ 6 ∷ []
digits = refl

digits_back : map direction_of (0 ∷ 1 ∷ 2 ∷ 3 ∷ 4 ∷ 5 ∷ 6 ∷ 7 ∷ [])
    ≡ None ∷ Some K ∷ Some J ∷ Some JK ∷ Some I ∷ Some IK ∷ Some IJ ∷ None ∷ []
digits_back = refl

units : map unit_of directions
    ≡ eisenstein (negsuc 0) (negsuc 0) ∷ eisenstein (pos 0) (pos 1) ∷ eisenstein (negsuc 0) (pos 0)
    ∷ eisenstein (pos 1) (pos 0) ∷ eisenstein (pos 0) (negsuc 0) ∷ eisenstein (pos 1) (pos 1) ∷ []
units = refl

opposites : map opposite directions ≡ IJ ∷ IK ∷ I ∷ JK ∷ J ∷ K ∷ []
opposites = refl

opposite_units : map (λ d. unit_of (opposite d)) directions ≡ map (λ d. product_of minus_one (unit_of d)) directions
opposite_units = refl

turned_directions : map (turned 1) directions ≡ IK ∷ JK ∷ K ∷ IJ ∷ I ∷ J ∷ []
turned_directions = refl

half_turn : map (turned 3) directions ≡ map opposite directions
half_turn = refl

whole_turn : map (turned 6) directions ≡ directions
whole_turn = refl

whole_turn_number : turning 6 ≡ one
whole_turn_number = refl

turned_digits : map (digit_turned 1) (0 ∷ 1 ∷ 2 ∷ 3 ∷ 4 ∷ 5 ∷ 6 ∷ []) ≡ 0 ∷ 5 ∷ 3 ∷ 1 ∷ 6 ∷ 4 ∷ 2 ∷ []
turned_digits = refl

-- ---- carries

-- 1 + 1 = (2 - w)*1 + w at an odd resolution
carry_three : IsCarry Three 4 I one 2
carry_three = refl

-- 1 + 1 = (3 + w)*1 - 1 - w at an even one
carry_two : IsCarry Two 4 I one 1
carry_two = refl

-- ---- places and sums

-- (2 - w)*1 + 1, and then times 3 + w
places : map place ([] ∷ (4 ∷ []) ∷ (4 ∷ 4 ∷ []) ∷ []) ≡ zero_point ∷ one ∷ eisenstein (pos 4) (pos 1) ∷ []
places = refl

place_as_sum : sum_from 0 (0 ∷ 6 ∷ 4 ∷ 3 ∷ 4 ∷ []) ≡ place (0 ∷ 6 ∷ 4 ∷ 3 ∷ 4 ∷ [])
place_as_sum = refl

-- 85283473fffffff by IJ lies in its own base cell: 85283447fffffff
sum_inside : sum_of (place (0 ∷ 6 ∷ 4 ∷ 3 ∷ 4 ∷ [])) (unit_of IJ)
    ≡ sum_of (scaled 0 5 zero_point) (place (0 ∷ 6 ∷ 4 ∷ 2 ∷ 1 ∷ []))
sum_inside = refl

-- 813d3ffffffffff by I lies across the border I of its base cell, at the digit 2
sum_across : sum_of (place (4 ∷ [])) (unit_of I) ≡ sum_of (scaled 0 1 (unit_of I)) (place (2 ∷ []))
sum_across = refl
