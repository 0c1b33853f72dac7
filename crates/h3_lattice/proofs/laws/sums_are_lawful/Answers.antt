use Rattle.h3_lattice.proofs.SumLaws.{sums_are_unique, sums_close_triangles, sums_exist, sums_reverse, sums_turn}
use Rattle.h3_lattice.proofs.laws.sums_are_lawful.Goals as goal

pub returns : goal.returns
returns c = record {
  exist = sums_exist;
  unique = sums_are_unique;
  reverse = sums_reverse;
  turn = sums_turn;
  triangles = sums_close_triangles;
}
