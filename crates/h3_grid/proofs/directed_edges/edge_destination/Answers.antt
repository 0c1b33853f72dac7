use Rattle.std.proofs.Common.{refl, sym, ap, ◌∙◌}
use Rattle.h3_table.specs.BaseTable.{link_of}
use Rattle.h3_grid.specs.Neighbors.{neighbor}
use Rattle.h3_grid.proofs.DirectedEdgeLaws.{LeadsNowhere, LeadsTo, leads_nowhere, leads_to}
use Rattle.h3_grid.proofs.directed_edges.edge_destination.Goals as goal
use Rattle.h3_grid.proofs.directed_edges.edge_destination.Goals.{In-None, In-Some}

leads : (c : In-Some) → LeadsTo (link_of c.args.table.now) c.args.edge c.in-Some.cell
leads c =
    leads_to (link_of c.args.table.now) c.args.edge c.edge_direction.result c.in-Some.cell c.edge_direction.ensures
    (ap (λ a. neighbor (link_of c.args.table.now) a c.edge_direction.result) (sym c.origin.ensures.is)
    ∙ sym c.in-Some.ensures)

nowhere : (c : In-None) → LeadsNowhere (link_of c.args.table.now) c.args.edge
nowhere c =
    leads_nowhere (link_of c.args.table.now) c.args.edge c.edge_direction.result c.edge_direction.ensures
    (ap (λ a. neighbor (link_of c.args.table.now) a c.edge_direction.result) (sym c.origin.ensures.is)
    ∙ sym c.in-None.ensures)

pub returns-in-Some-clause-is : goal.returns-in-Some-clause-is
returns-in-Some-clause-is c = (leads c).is

pub returns-in-Some-clause-leads : goal.returns-in-Some-clause-leads
returns-in-Some-clause-leads c = (leads c).leads

pub returns-in-None-clause-is : goal.returns-in-None-clause-is
returns-in-None-clause-is c = (nowhere c).is

pub returns-in-None-clause-refused : goal.returns-in-None-clause-refused
returns-in-None-clause-refused c = (refl, (nowhere c).none)
