use Rattle.h3_lattice.proofs.TurnLaws.{digit_turns_add, map-turned-zero, opposites_are_three_turns, six_digit_turns_are_none, six_turns_are_none, turns_add}
use Rattle.h3_lattice.proofs.laws.turns_add_up.Goals as goal

pub returns : goal.returns
returns c = record {
  directions = turns_add;
  six = six_turns_are_none;
  opposite = opposites_are_three_turns;
  digits = digit_turns_add;
  six_of_digits = six_digit_turns_are_none;
  none_of_digits = map-turned-zero;
}
