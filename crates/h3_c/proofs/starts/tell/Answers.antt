use Rattle.std.proofs.Common.{◌∙◌, length, map, sym}
use Rattle.std.proofs.lemmas.List.{length-map}
use Rattle.h3_c.proofs.Columns.{place-none}
use Rattle.h3_c.proofs.Laid.{is_no_more}
use Rattle.h3_c.proofs.starts.tell.Goals as goal

pub returns-then-is_none_refused-clause-place : goal.returns-then-is_none_refused-clause-place
returns-then-is_none_refused-clause-place g c =
    let rs = map (λ h. g.Q.ColumnFunction.outcome c.args.question.now h) c.args.indexes.now in
    let none = (c.requires.none c.if-fitting-indexes.false).0 c.if-is_none_refused.true in
    rw (is_no_more (length c.args.indexes.now) c.args.fitting c.if-fitting-indexes.false)
    (sym (length-map c.args.indexes.now (λ h. g.Q.ColumnFunction.outcome c.args.question.now h))
    ∙ sym (place-none rs none))
