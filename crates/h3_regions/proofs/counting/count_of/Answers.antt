use Rattle.std.proofs.Common.{◌≡◌, Some, ap, sym, subst, ◌∙◌}
use Rattle.h3_index.specs.Descendants.{IsAncestor}
use Rattle.h3_regions.specs.Zones.{StandsAbove}
use Rattle.h3_regions.proofs.CountingLaws.{count_at}
use Rattle.h3_regions.proofs.ListLaws.{member_at}
use Rattle.std.specs.Prelude.{slice_index_or}
use Rattle.h3_regions.proofs.counting.count_of.Goals as goal

pub unreachable-requires : goal.unreachable-requires
unreachable-requires c =
    let m = c.requires.member in
    let one = rw c.cells.ensures.is at c.in-None.ensures.one in
    let above : StandsAbove c.args.zones.now m.0 c.args.zone = λ d.
    subst (λ a. IsAncestor a c.args.zone) (sym (member_at c.args.zones.now c.args.zone d m))
    (c.cells_form_trees.ensures.own c.args.zone) in
    let never = one m.0 m.1 above in
    absurd (cc)

pub returns : goal.returns
returns c cells others h =
    let m = c.requires.member in
    let one = rw c.cells.ensures.is at c.in-Some.ensures.one in
    let above : StandsAbove c.args.zones.now m.0 c.args.zone = λ d.
    subst (λ a. IsAncestor a c.args.zone) (sym (member_at c.args.zones.now c.args.zone d m))
    (c.cells_form_trees.ensures.own c.args.zone) in
    let at : Some c.in-Some.i ≡ Some m.0 = one m.0 m.1 above in
    let place : c.in-Some.i ≡ m.0 = cc in
    ap (λ i. slice_index_or c.args.counts.now i 0) place
    ∙ count_at c.args.zones.now cells c.args.counts.now others c.args.zone m h
