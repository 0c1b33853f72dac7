use Rattle.std.proofs.Common.{◌≡◌, ◌∙◌, length, length-take-le, take, sym, subst, arith}
use Rattle.std.proofs.lemmas.Result.{err_from_is_err_and}
use Rattle.h3_lines.specs.Pieces.{Uncut}
use Rattle.h3_lines.specs.Splitting.{Goes}
use Rattle.h3_lines.proofs.RowStarts.{left_is_end}
use Rattle.h3_lines.proofs.TakenRows.{goes_refused, goes_settled, refused_long}
use Rattle.h3_lines.proofs.splitting.take_page.Goals as goal

pub returns-then-held-longest-clause-err : goal.returns-then-held-longest-clause-err
returns-then-held-longest-clause-err g c rest =
    goes_refused c.args.quotes g.J.JobContract.taken g.J.JobContract.refused g.met.J.JobContract.refused_then rest
    c.in_ok-left.ensures.ok
    (refused_long c.args.quotes g.J.JobContract.refused g.J.JobContract.longest c.in_ok-left.left.now rest
    c.in_ok-left.ensures.uncut (omega (arith, c.if-held-longest.true, c.requires.longest)) c.refuse_long.ensures)

pub returns-in_err-settle-clause-err : goal.returns-in_err-settle-clause-err
returns-in_err-settle-clause-err g c =
    let p = err_from_is_err_and c.from_residual-in_err-settle.result c.from_residual-in_err-settle.ensures.1 in
    rw (p.1, p.2) (λ rest. goes_refused c.args.quotes g.J.JobContract.taken g.J.JobContract.refused
    g.met.J.JobContract.refused_then rest c.in_ok-left.ensures.ok (c.in_err-settle.ensures.err _))

pub move_to_front-requires-clause-held : goal.move_to_front-requires-clause-held
move_to_front-requires-clause-held g c =
    let left =
    left_is_end
    (take c.args.end c.args.page.now) c.in_ok-left.left.now c.in_ok-left.ensures.ok c.in_ok-left.ensures.uncut in
    omega (arith, left.0, length-take-le c.args.end c.args.page.now c.requires.end)

pub returns-clause-ok : goal.returns-clause-ok
returns-clause-ok g c =
    let left =
    left_is_end
    (take c.args.end c.args.page.now) c.in_ok-left.left.now c.in_ok-left.ensures.ok c.in_ok-left.ensures.uncut in
    let moved : take (length c.in_ok-left.left.now) c.move_to_front.new.page ≡ c.in_ok-left.left.now =
    c.move_to_front.ensures ∙ rw (length-take-le c.args.end c.args.page.now c.requires.end) at left.1 in
    subst (λ l. Goes c.args.quotes g.J.JobContract.taken c.args.job.now _ (take c.args.end c.args.page.now)
    c.settle.new.self _ l) (sym moved) (goes_settled c.args.quotes g.J.JobContract.taken
    g.met.J.JobContract.taken_then c.in_ok-left.ensures.ok c.in_ok-settle.ensures.ok)

pub returns-clause-uncut : goal.returns-clause-uncut
returns-clause-uncut g c =
    let left =
    left_is_end
    (take c.args.end c.args.page.now) c.in_ok-left.left.now c.in_ok-left.ensures.ok c.in_ok-left.ensures.uncut in
    let moved : take (length c.in_ok-left.left.now) c.move_to_front.new.page ≡ c.in_ok-left.left.now =
    c.move_to_front.ensures ∙ rw (length-take-le c.args.end c.args.page.now c.requires.end) at left.1 in
    subst (λ l. Uncut 10 c.args.quotes _ l c.in_ok-left.inside) (sym moved) c.in_ok-left.ensures.uncut

pub returns-clause-within : goal.returns-clause-within
returns-clause-within g c =
    let left =
    left_is_end
    (take c.args.end c.args.page.now) c.in_ok-left.left.now c.in_ok-left.ensures.ok c.in_ok-left.ensures.uncut in
    omega (arith, left.0, length-take-le c.args.end c.args.page.now c.requires.end)
