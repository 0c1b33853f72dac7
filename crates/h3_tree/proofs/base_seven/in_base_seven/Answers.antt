use Rattle.std.proofs.Common.{sym, ap, ◌∙◌, lit<}
use Rattle.h3_tree.proofs.BaseSevenLaws.{read, read-list, steps}
use Rattle.h3_tree.proofs.base_seven.in_base_seven.Goals as goal

pub returns : goal.returns
returns c ds small few is =
    (steps c.args.digits c.requires).is ∙ ap (λ v. read 7 8 16 v) (sym is) ∙ read-list 7 8 16 ds (lit< tt) small few
