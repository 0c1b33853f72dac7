use Rattle.h3_table.specs.BaseTable.{link_of}
use Rattle.h3_grid.proofs.DirectedEdgeLaws.{IsFound, edge-none, edge-refused, edge_found}
use Rattle.h3_grid.proofs.directed_edges.edge_between.Goals as goal
use Rattle.h3_grid.proofs.directed_edges.edge_between.Goals.{After-from_parts}

pub returns-in-Some-clause-is : goal.returns-in-Some-clause-is
returns-in-Some-clause-is c =
    edge-refused (link_of c.args.table.now) c.args.a c.args.b c.in-Some.error c.in-Some.ensures.is

pub returns-in-None-direction_to-clause-is : goal.returns-in-None-direction_to-clause-is
returns-in-None-direction_to-clause-is c =
    edge-none (link_of c.args.table.now) c.args.a c.args.b c.in-None.ensures.is c.in-None-direction_to.ensures

found : (c : After-from_parts) → IsFound (link_of c.args.table.now) c.args.a c.args.b c.from_parts.result
found c =
    let cells = c.pair_refusal.ensures.cells in
    edge_found (link_of c.args.table.now) c.args.a c.args.b c.in-Some-direction_to.direction c.digit.result
    c.from_parts.result c.neighbor_is_lawful.ensures.found cells.0 cells.1 c.in-None.ensures.is
    c.in-Some-direction_to.ensures c.digit.ensures c.from_parts.ensures.made c.from_parts.ensures.refused

pub returns-in-Some-direction_to-clause-is : goal.returns-in-Some-direction_to-clause-is
returns-in-Some-direction_to-clause-is c = (found c).is

pub returns-in-Some-direction_to-clause-leads : goal.returns-in-Some-direction_to-clause-leads
returns-in-Some-direction_to-clause-leads c = (found c).leads

pub returns-in-Some-direction_to-clause-refused : goal.returns-in-Some-direction_to-clause-refused
returns-in-Some-direction_to-clause-refused c = (found c).refused
