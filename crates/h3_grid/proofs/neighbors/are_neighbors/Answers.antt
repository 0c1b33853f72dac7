use Rattle.std.proofs.Common.{Ok, sym, ap, ◌∙◌}
use Rattle.h3_table.specs.BaseTable.{link_of}
use Rattle.h3_grid.proofs.NeighborLaws.{result-refused, result-same, result-given}
use Rattle.h3_grid.proofs.neighbors.are_neighbors.Goals as goal

-- ---- pairs that are refused

pub returns-in-Some-clause-is : goal.returns-in-Some-clause-is
returns-in-Some-clause-is c =
    sym (result-refused (link_of c.args.table.now) c.args.a c.args.b c.in-Some.error (sym c.in-Some.ensures.is))

pub returns-in-Some-clause-related : goal.returns-in-Some-clause-related
returns-in-Some-clause-related c =
    rw (returns-in-Some-clause-is c) (c.neighbor_is_lawful.ensures.related c.args.a c.args.b
    c.pair_refusal.ensures.cells.0 c.pair_refusal.ensures.cells.1)

pub returns-in-Some-clause-same : goal.returns-in-Some-clause-same
returns-in-Some-clause-same c =
    λ e. returns-in-Some-clause-is c ∙ result-same (link_of c.args.table.now) c.args.a c.args.b e

-- ---- pairs whose direction is looked for

pub returns-in-None-clause-is : goal.returns-in-None-clause-is
returns-in-None-clause-is c =
    ap Ok c.is_neighbor.ensures
    ∙ sym (result-given (link_of c.args.table.now) c.args.a c.args.b (sym c.in-None.ensures.is))

pub returns-in-None-clause-related : goal.returns-in-None-clause-related
returns-in-None-clause-related c =
    rw (returns-in-None-clause-is c) (c.neighbor_is_lawful.ensures.related c.args.a c.args.b
    c.pair_refusal.ensures.cells.0 c.pair_refusal.ensures.cells.1)
