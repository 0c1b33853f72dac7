-- Numbers: decimal fractions of up to eighteen digits before the point, and up to eighteen after it.
use Rattle.std.specs.Prelude.{◌^◌, ℤ, pos, ◌+ℤ◌, ◌*ℤ◌}
use Rattle.h3_numbers.specs.declared.number.Number.{Number}

-- number_units n: a number, in units of 10^-18
abbrev pub number_units : Number → ℤ
number_units n = (n.whole *ℤ pos (10 ^ 18)) +ℤ n.fraction
