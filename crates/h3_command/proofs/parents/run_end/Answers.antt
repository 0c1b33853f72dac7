use Rattle.std.proofs.Common.{◌≡◌, ◌∙◌, ◌<◌, ap, arith, get_or, inl, inr, length, map, subst, sym}
use Rattle.std.proofs.lemmas.Bool.{cases_lt}
use Rattle.h3_index.specs.Cell.{Address, number_of}
use Rattle.h3_command.proofs.AncestorRuns.{cell_there}
use Rattle.h3_command.proofs.parents.run_end.Goals as goal

pub loop-end-init : goal.loop-end-init
loop-end-init g c =
    let cells = map g.T.HasCell.cell_of c.args.items.now in
    let own : (d : Address) → number_of (get_or cells c.args.place d) ≡ c.raw-number.result =
    λ d.
    ap number_of (cell_there g.T.HasCell.cell_of c.args.items.now c.args.place c.index-items-place.result d
    c.requires (sym c.index-items-place.is))
    ∙ sym (c.raw-number.ensures.number ∙ ap number_of c.cell.ensures) in
    record {
      some = omega arith;
      within = omega (arith, c.requires);
      same = λ k d from lt. (
          let at : c.args.place ≡ k = omega (arith, from, lt) in
          subst (λ j. number_of (get_or cells j d) ≡ c.raw-number.result) at (own d));
    }

pub loop-end-preserved : goal.loop-end-preserved
loop-end-preserved g c =
    let cells = map g.T.HasCell.cell_of c.args.items.now in
    let inv = c.loop-end.invariant in
    let some = inv.some in
    let inside : c.loop-end.end < length c.args.items.now = c.loop-end-test.true in
    let equal : c.raw.result ≡ c.raw-number.result = c.if-raw-number.true in
    let own : (d : Address) → number_of (get_or cells c.loop-end.end d) ≡ c.raw-number.result =
    λ d.
    ap number_of (cell_there g.T.HasCell.cell_of c.args.items.now c.loop-end.end c.index-items-end.result d inside
    (sym c.index-items-end.is))
    ∙ sym (c.raw.ensures.number ∙ ap number_of c.cell-in-loop-end.ensures) ∙ equal in
    record {
      some = omega (arith, some);
      within = omega (arith, inside);
      same = λ k d from lt. elim (cases_lt k c.loop-end.end) [
        | inl less ↦ inv.same k d from less
        | inr not ↦
            let at : c.loop-end.end ≡ k = omega (arith, lt, not) in
            subst (λ j. number_of (get_or cells j d) ≡ c.raw-number.result) at (own d)
      ];
    }
