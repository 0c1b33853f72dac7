use Rattle.std.proofs.Common.{◌<◌, ◌++◌, [], length, take, arith, refl, append-nil, length-append, sym}
use Rattle.std.proofs.lemmas.Result.{err_from_is_err_and}
use Rattle.h3_lines.specs.Write.{sink_use}
use Rattle.h3_lines.specs.EachLaws.{breaks_then, moves_all, moves_then, some_of_part}
use Rattle.h3_rows.proofs.write.put_bytes.Goals as goal

pub returns-in_err-write_all-clause-err : goal.returns-in_err-write_all-clause-err
returns-in_err-write_all-clause-err g c =
    let p = err_from_is_err_and c.from_residual.result c.from_residual.ensures.1 in
    let held = take c.args.end c.args.block.now in
    let bytes = c.args.bytes.now in
    let some : 0 < length (held ++ bytes) = omega (arith, length-append held bytes, c.if-bytes-end.false) in
    rw (p.1, p.2) (
      refl,
      some,
      some_of_part held bytes _ (sink_use g.W.Sink.taken g.W.Sink.has_failed c.args.out.now
          c.write_all.new.out) refl c.in_err-write_all.ensures.part c.in_err-write_all.ensures.err,
    )

pub returns-in_err-write_all-2-clause-err : goal.returns-in_err-write_all-2-clause-err
returns-in_err-write_all-2-clause-err g c =
    let p =
    err_from_is_err_and c.from_residual-in_err-write_all-2.result c.from_residual-in_err-write_all-2.ensures.1 in
    let held = take c.args.end c.args.block.now in
    let bytes = c.args.bytes.now in
    let some : 0 < length bytes = omega (arith, c.if-bytes-le-BLOCK.false) in
    rw (p.1, p.2) (breaks_then g.W.Sink.taken g.W.Sink.has_failed held [] bytes c.args.out.now c.write_all.new.out
    c.write_all-2.new.out _ (moves_all g.W.Sink.taken g.W.Sink.has_failed held _ _ c.in_ok-write_all.ensures.written
    c.in_ok-write_all.ensures.ok) (
      refl,
      some,
      some_of_part bytes [] bytes
          (sink_use g.W.Sink.taken g.W.Sink.has_failed c.write_all.new.out c.write_all-2.new.out)
          (sym (append-nil bytes)) c.in_err-write_all-2.ensures.part c.in_err-write_all-2.ensures.err,
    ))

pub returns-clause-ok : goal.returns-clause-ok
returns-clause-ok g c =
    let held = take c.args.end c.args.block.now in
    moves_then g.W.Sink.taken g.W.Sink.has_failed held [] c.args.bytes.now [] c.args.out.now c.write_all.new.out
    c.write_all-2.new.out (moves_all g.W.Sink.taken g.W.Sink.has_failed held _ _ c.in_ok-write_all.ensures.written
    c.in_ok-write_all.ensures.ok)
    (moves_all g.W.Sink.taken g.W.Sink.has_failed c.args.bytes.now _ _ c.in_ok-write_all-2.ensures.written
    c.in_ok-write_all-2.ensures.ok)
