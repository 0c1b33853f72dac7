use Rattle.std.proofs.Common.{◌∙◌, ◌++◌, drop, arith}
use Rattle.std.proofs.lemmas.List.{drop-set-lt, length-take-le}
use Rattle.std.proofs.lemmas.Slice.{drop-append-drop}
use Rattle.h3_c.proofs.texts.h3w_h3ToString.Goals as goal

pub returns-clause-rest : goal.returns-clause-rest
returns-clause-rest c =
    drop-set-lt 17 (c.copy_from_slice.new.self ++ drop 16 c.args.text.now) c.index_bytes-count.result.1 0
    (omega (arith, c.index_bytes-count.ensures.within))
    ∙ drop-append-drop 16 c.args.text.now c.copy_from_slice.new.self 17 (omega arith)
    (c.copy_from_slice.ensures.len ∙ length-take-le 16 c.args.text.now (omega (arith, c.if-text-lt-ROOM.false)))
