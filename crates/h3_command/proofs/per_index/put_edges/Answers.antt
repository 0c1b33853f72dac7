use Rattle.std.proofs.Common.{◌+◌, ◌≤◌, arith, ap, length}
use Rattle.std.specs.Iterator.{Yields, YieldsFirst}
use Rattle.h3_grid.specs.Iter.{edges_left}
use Rattle.h3_lines.specs.Answer.{edge_lines, printed}
use Rattle.h3_command.proofs.EdgeLines.{all_edges, at_most_six}
use Rattle.h3_command.proofs.per_index.put_edges.Goals as goal

pub put-end-requires : goal.put-end-requires
put-end-requires c =
    let so_far : Yields
    (YieldsFirst edges_left) c.into_iter-edge-iterator.result c.loop-edge.yielded c.loop-edge.edge-iterator =
    c.loop-edge.yielded_by in
    let few : length c.loop-edge.yielded + 1 ≤ 6 =
    at_most_six c.args.index c.in_ok-edge-items.ensures _ c.into_iter-edge-iterator.ensures.into_iter_gives _ _
    so_far _ _ c.in-Some.ensures.steps in
    record { room = omega (arith, few, c.loop-edge.invariant.room, c.requires.room) }

pub returns-clause-end : goal.returns-clause-end
returns-clause-end c =
    let so_far : Yields
    (YieldsFirst edges_left) c.into_iter-edge-iterator.result c.loop-edge.yielded c.loop-edge.edge-iterator =
    c.loop-edge.yielded_by in
    let few : length c.loop-edge.yielded ≤ 6 =
    (all_edges c.args.index c.in_ok-edge-items.ensures _ c.into_iter-edge-iterator.ensures.into_iter_gives _ _
    so_far _ c.in-None.ensures.steps).1 in
    omega (arith, few, c.loop-edge.invariant.room)

pub returns-clause-ok : goal.returns-clause-ok
returns-clause-ok c =
    let so_far : Yields
    (YieldsFirst edges_left) c.into_iter-edge-iterator.result c.loop-edge.yielded c.loop-edge.edge-iterator =
    c.loop-edge.yielded_by in
    let is =
    (all_edges c.args.index c.in_ok-edge-items.ensures _ c.into_iter-edge-iterator.ensures.into_iter_gives _ _
    so_far _ c.in-None.ensures.steps).0 in
    record { text = edge_lines c.loop-edge.yielded; is = ap (printed edge_lines) is; put = c.loop-edge.invariant.put }
