use Rattle.std.proofs.Common.{◌<◌, length, take, arith, refl, append-nil, length-take-le, sym, []}
use Rattle.std.proofs.lemmas.Result.{err_from_is_err_and}
use Rattle.h3_lines.specs.Write.{sink_use}
use Rattle.h3_lines.specs.EachLaws.{moves_all, moves_none, some_of_part}
use Rattle.h3_rows.proofs.put.make_room.Goals as goal

pub returns-then-end-lt-BLOCK-clause-ok : goal.returns-then-end-lt-BLOCK-clause-ok
returns-then-end-lt-BLOCK-clause-ok g c = moves_none g.W.Sink.taken g.W.Sink.has_failed
    (take c.args.end c.args.block.now) c.args.out.now

pub returns-in_err-write_all-clause-err : goal.returns-in_err-write_all-clause-err
returns-in_err-write_all-clause-err g c =
    let p = err_from_is_err_and c.from_residual.result c.from_residual.ensures.1 in
    let held = take c.args.end c.args.block.now in
    let some : 0 < length held = omega (
      arith,
      length-take-le c.args.end c.args.block.now
          (omega (arith, c.told-block, c.requires)),
      c.if-end-lt-BLOCK.false,
    ) in
    rw (p.1, p.2) (
      refl,
      some,
      some_of_part held [] held
          (sink_use g.W.Sink.taken g.W.Sink.has_failed c.args.out.now c.write_all.new.out) (sym (append-nil held))
          c.in_err-write_all.ensures.part c.in_err-write_all.ensures.err,
    )

pub returns-clause-ok : goal.returns-clause-ok
returns-clause-ok g c = moves_all g.W.Sink.taken g.W.Sink.has_failed (take c.args.end c.args.block.now) _ _
    c.in_ok-write_all.ensures.written c.in_ok-write_all.ensures.ok
