use Rattle.std.proofs.Common.{sym, ◌∙◌, subst}
use Rattle.h3_index.specs.Edge.{IsEdge, directed_edge}
use Rattle.h3_index.proofs.EdgeLaws.{IsEdgeForm, edge_form, made_edge, made_number, mode_fits, true-has_edge}
use Rattle.h3_index.proofs.edge.Edge.from_parts.Goals as goal

valid : (c : goal.After-from) → IsEdge (directed_edge c.args.origin c.args.direction)
valid c =
    true-has_edge c.args.origin c.args.direction c.raw.ensures.valid (sym c.has_edge.ensures ∙ c.if-not-has_edge.false)

form : (c : goal.After-from) → IsEdgeForm c.args.origin c.args.direction c.raw.result c.from.result
form c =
    edge_form c.args.origin c.args.direction c.raw.result c.from.result c.raw.ensures.valid (valid c).direction_small
    c.raw.ensures.number c.from.ensures

pub overflow_add-result : goal.overflow_add-result
overflow_add-result c = record { fits = mode_fits c.args.origin c.raw.result c.raw.ensures.valid c.raw.ensures.number }

pub overflow_add-result-2 : goal.overflow_add-result-2
overflow_add-result-2 c = record { fits = (form c).fits }

pub invariant_of-result : goal.invariant_of-result
invariant_of-result c = made_number _ _ (valid c) (form c).is

pub returns-clause-made : goal.returns-clause-made
returns-clause-made c =
    let is = made_edge _ _ (valid c) (form c).is in
    (is, subst IsEdge (sym is) (valid c))
