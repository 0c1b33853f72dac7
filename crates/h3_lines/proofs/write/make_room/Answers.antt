use Rattle.std.proofs.Common.{◌≡◌, ◌<◌, ◌≤◌, ◌-◌, ◌∷◌, [], ◌++◌, ℕ, get_or, length, take, set, arith, length-take-le, ap, ◌∙◌, subst, sym}
use Rattle.std.proofs.lemmas.List.{take_more_set}
use Rattle.std.proofs.lemmas.Result.{err_from_is_err_and}
use Rattle.h3_lines.specs.EachLaws.{beginning_longer, moves_none}
use Rattle.h3_lines.specs.Write.{AppendsPart}
use Rattle.h3_lines.proofs.AnsweredLines.{last_left}
use Rattle.h3_lines.proofs.write.make_room.Goals as goal

pub returns-then-end-clause-ok : goal.returns-then-end-clause-ok
returns-then-end-clause-ok g c = moves_none g.W.Sink.taken g.W.Sink.has_failed _ _

pub returns-in_err-write_all-clause-err : goal.returns-in_err-write_all-clause-err
returns-in_err-write_all-clause-err g c =
    let p = err_from_is_err_and c.from_residual.result c.from_residual.ensures.1 in
    let block = c.args.block.now in
    let end = c.args.end in
    let some : 0 < end = omega (arith, c.if-end.false) in
    let full : end ≤ length block = omega (arith, c.fits-block, c.requires) in
    let is : take end block ≡ take (end - 1) block ++ get_or block (end - 1) 0 ∷ [] = last_left block end some full in
    let held : 0 < length (take end block) = omega (arith, length-take-le {A = ℕ} end block full, some) in
    let part =
    subst (AppendsPart (g.W.Sink.taken c.args.out.now) (g.W.Sink.taken c.write_all.new.out)) (sym is)
    (beginning_longer (get_or block (end - 1) 0 ∷ []) c.in_err-write_all.ensures.part) in
    rw p.1 (held, part, c.in_err-write_all.ensures.err)

pub returns-clause-ok : goal.returns-clause-ok
returns-clause-ok g c =
    let block = c.args.block.now in
    let end = c.args.end in
    let some : 0 < end = omega (arith, c.if-end.false) in
    let full : end ≤ length block = omega (arith, c.fits-block, c.requires) in
    let last = get_or block (end - 1) 0 in
    let first : take 1 (set block 0 last) ≡ last ∷ [] = take_more_set block 0 last (omega arith) in
    record {
      part = take (end - 1) block;
      split = last_left block end some full ∙ ap (λ l. take (end - 1) block ++ l) (sym first);
      grown = c.in_ok-write_all.ensures.written;
      sound = c.in_ok-write_all.ensures.ok;
    }
