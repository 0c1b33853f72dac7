use Rattle.std.proofs.Common.{◌≡◌, suc, ◌-◌, ◌+◌, ◌∷◌, [], replicate, take, sym, ap, ◌∙◌, subst, append-nil, arith}
use Rattle.std.proofs.lemmas.List.{replicate-append-replicate, replicate_more}
use Rattle.std.proofs.lemmas.Result.{err_from_is_err_and}
use Rattle.h3_lines.specs.Answering.{Moves}
use Rattle.h3_lines.specs.EachLaws.{moves_none}
use Rattle.h3_rows.proofs.Parts.{breaks_second, moves_two}
use Rattle.h3_rows.proofs.write.put_returns.Goals as goal

pub loop-left-init : goal.loop-left-init
loop-left-init g c =
    let none : c.args.count - c.args.count ≡ 0 = omega arith in
    let held = take c.args.end c.args.block.now in record {
      within = c.requires;
      fewer = omega arith;
      moves =
          rw none (subst (λ l. Moves g.W.Sink.taken g.W.Sink.has_failed l held c.args.out.now c.args.out.now)
          (sym (append-nil held)) (moves_none g.W.Sink.taken g.W.Sink.has_failed held c.args.out.now));
    }

pub loop-left-preserved : goal.loop-left-preserved
loop-left-preserved g c =
    let done = c.args.count - c.loop-left.left in
    let next : done + 1 ≡ c.args.count - (c.loop-left.left - 1) =
    omega (arith, c.loop-left-test.true, c.loop-left.invariant.fewer) in
    record {
      within = c.in_ok-last.ensures.within;
      fewer = omega (arith, c.loop-left.invariant.fewer);
      moves =
          moves_two g.W.Sink.taken g.W.Sink.has_failed (take c.args.end c.args.block.now) (replicate done 13) (13 ∷
          []) _ _ _ _ _ _
          (replicate_more done 13 ∙ ap (λ n. replicate n 13) next) c.loop-left.invariant.moves c.in_ok-last.ensures.ok;
    }

pub returns-in_err-last-clause-err : goal.returns-in_err-last-clause-err
returns-in_err-last-clause-err g c =
    let p = err_from_is_err_and c.from_residual.result c.from_residual.ensures.1 in
    let done = c.args.count - c.loop-left.left in
    let rest = c.loop-left.left - 1 in
    let whole : done + suc rest ≡ c.args.count = omega (arith, c.loop-left-test.true, c.loop-left.invariant.fewer) in
    rw (p.1, p.2) (breaks_second g.W.Sink.taken g.W.Sink.has_failed (take c.args.end c.args.block.now)
    (replicate done 13) (13 ∷ []) (replicate rest 13) _ _ _ _ _ _
    (replicate-append-replicate done (suc rest) 13 ∙ ap (λ n. replicate n 13) whole) c.loop-left.invariant.moves
    c.in_err-last.ensures.err)

pub returns-clause-ok : goal.returns-clause-ok
returns-clause-ok g c =
    let all : c.args.count - c.loop-left.left ≡ c.args.count = omega (arith, c.loop-left-test.false) in
    rw all at c.loop-left.invariant.moves
