use Rattle.std.proofs.Common.{◌≡◌, ◌-◌, ◌<◌, ℕ, arith, ap, get_or, length, sym, drop, ◌∙◌}
use Rattle.std.proofs.lemmas.List.{length-drop, length-take-le}
use Rattle.h3_command.specs.ByValue.{part_of}
use Rattle.h3_command.proofs.MakingLists.{one_made, own_cells}
use Rattle.h3_command.proofs.by_lists.make_lists.Goals as goal

pub loop-k-preserved : goal.loop-k-preserved
loop-k-preserved g c =
    let lt : c.loop-k.k < length c.args.parts.now =
    omega (arith, c.loop-k-test.true, c.loop-k.invariant.apart.size_is) in
    let p : ℕ × ℕ = get_or c.loop-k.parts c.loop-k.k (0, 0) in
    let order = c.loop-k.invariant.apart.ordered c.loop-k.k lt in
    let within = c.loop-k.invariant.apart.within c.loop-k.k lt in
    let own : length (part_of c.loop-k.cells p) ≡ p.1 - p.0 =
    length-take-le (p.1 - p.0) (drop p.0 c.loop-k.cells)
    (omega (arith, length-drop p.0 c.loop-k.cells, order, within)) in
    one_made (g.F.ListOfValue.list_of c.args.function.now) (g.F.ListOfValue.listed c.args.function.now)
    (g.F.ListOfValue.ready c.args.function.now)
    c.args.cells.now c.args.parts.now c.loop-k.cells c.loop-k.parts c.loop-k.k lt c.loop-k.invariant
    c.make.new.cells c.in-Ok.count (c.make.auto.cells ∙ own)
    (omega (arith, c.in-Ok.ensures.fewer, c.make.auto.cells)) c.in-Ok.ensures.made c.in-Ok.ensures.ready

pub returns-in-Err-clause-refused : goal.returns-in-Err-clause-refused
returns-in-Err-clause-refused g c = λ pairs by.
    let lt : c.loop-k.k < length c.args.parts.now =
    omega (arith, c.loop-k-test.true, c.loop-k.invariant.apart.size_is) in
    let own = own_cells (g.F.ListOfValue.list_of c.args.function.now) (g.F.ListOfValue.listed c.args.function.now)
    (g.F.ListOfValue.ready c.args.function.now)
    c.args.cells.now c.args.parts.now c.loop-k.cells c.loop-k.parts c.loop-k.k lt c.loop-k.invariant in
    record {
      within = lt;
      is =
          ap (g.F.ListOfValue.list_of c.args.function.now) (sym (own ∙ by.own c.loop-k.k lt))
          ∙ c.in-Err.ensures.refused;
      before = λ n ln. (
        _,
        ap (g.F.ListOfValue.list_of c.args.function.now) (sym (by.own n (omega (arith, ln, lt))))
            ∙ c.loop-k.invariant.made n ln,
      );
    }
