use Rattle.std.proofs.Common.{Option, option_map, sym, ap}
use Rattle.h3_grid.specs.Neighbors.{neighbor}
use Rattle.h3_grid.specs.Steps.{State}
use Rattle.h3_grid.proofs.neighbors.neighbor.Goals as goal

pub returns-in-Ok : goal.returns-in-Ok
unfolding neighbor
returns-in-Ok c = sym (ap (λ (o : Option State). option_map (λ s. s.cell) o) c.in-Ok.ensures.leads)

pub returns-in-Err : goal.returns-in-Err
unfolding neighbor
returns-in-Err c = sym (ap (λ (o : Option State). option_map (λ s. s.cell) o) c.in-Err.ensures.ends)
