use Rattle.std.proofs.Common.{◌≡◌, ◌<◌, ◌∷◌, [], ◌++◌, ℕ, List, length, take, set, arith, length-append, ap, sym}
use Rattle.std.proofs.lemmas.List.{take_more_set}
use Rattle.std.proofs.lemmas.Result.{err_from_is_err_and}
use Rattle.h3_lines.specs.Answering.{Moves}
use Rattle.h3_lines.specs.EachLaws.{beginning_longer, moves_all, moves_then, push_then}
use Rattle.h3_command.proofs.area_counts.put_name.Goals as goal

pub returns-in_err-write_all-clause-err : goal.returns-in_err-write_all-clause-err
returns-in_err-write_all-clause-err g c =
    let p = err_from_is_err_and c.from_residual.result c.from_residual.ensures.1 in
    let held = take c.args.end c.args.block.now in
    let field : List ℕ = c.args.name.now ++ c.args.last ∷ [] in
    let some : 0 < length (held ++ field) =
    omega (arith, length-append held field, length-append c.args.name.now (c.args.last ∷ [])) in
    rw p.1 (some, beginning_longer field c.in_err-write_all.ensures.part, c.in_err-write_all.ensures.err)

pub returns-in_err-write_all-2-clause-err : goal.returns-in_err-write_all-2-clause-err
returns-in_err-write_all-2-clause-err g c =
    let p =
    err_from_is_err_and c.from_residual-in_err-write_all-2.result c.from_residual-in_err-write_all-2.ensures.1 in
    let held = take c.args.end c.args.block.now in
    let field : List ℕ = c.args.name.now ++ c.args.last ∷ [] in
    let some : 0 < length field = omega (arith, length-append c.args.name.now (c.args.last ∷ [])) in
    rw p.1 (push_then g.W.Sink.taken g.W.Sink.has_failed held [] field _ _ _
    (moves_all g.W.Sink.taken g.W.Sink.has_failed held _ _ c.in_ok-write_all.ensures.written
    c.in_ok-write_all.ensures.ok)
    (some, beginning_longer (c.args.last ∷ []) c.in_err-write_all-2.ensures.part, c.in_err-write_all-2.ensures.err))

pub returns-clause-ok : goal.returns-clause-ok
returns-clause-ok g c =
    let block = c.args.block.now in
    let name = c.args.name.now in
    let last = c.args.last in
    let held = take c.args.end block in
    let field : List ℕ = name ++ last ∷ [] in
    let one : take 1 (set block 0 last) ≡ last ∷ [] = take_more_set block 0 last (omega (arith, c.told-block)) in
    let own : Moves g.W.Sink.taken g.W.Sink.has_failed field (take 1 (set block 0 last)) c.write_all.new.out
    c.write_all-2.new.out =
    record {
      part = name;
      split = ap (λ l. name ++ l) (sym one);
      grown = c.in_ok-write_all-2.ensures.written;
      sound =
          c.in_ok-write_all-2.ensures.ok;
    } in
    moves_then g.W.Sink.taken g.W.Sink.has_failed held [] field _ _ _ _
    (moves_all g.W.Sink.taken g.W.Sink.has_failed held _ _ c.in_ok-write_all.ensures.written
    c.in_ok-write_all.ensures.ok) own
