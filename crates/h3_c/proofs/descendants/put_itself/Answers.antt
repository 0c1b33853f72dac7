use Rattle.std.proofs.Common.{arith, ◌≡◌, ◌+◌, ◌++◌, ◌∷◌, [], length, refl, sym, ap, ◌∙◌}
use Rattle.std.proofs.lemmas.List.{append-nil}
use Rattle.h3_index.specs.Descendants.{descendants}
use Rattle.h3_c.specs.Lists.{indexes, laid_over}
use Rattle.h3_c.proofs.DescendantLaws.{descendants-own}
use Rattle.h3_c.proofs.Laid.{indexes-full, is_more, is_no_more, length-laid_over}
use Rattle.h3_c.proofs.StartLaws.{put-next}
use Rattle.h3_c.proofs.descendants.put_itself.Goals as goal

pub returns-then-place-out-clause-end : goal.returns-then-place-out-clause-end
returns-then-place-out-clause-end c =
    let long : length (descendants c.args.cell c.args.r) ≡ 1 =
    ap length (descendants-own c.args.cell c.args.r c.requires.own) in
    rw (long, is_more (c.args.place + 1) (length c.args.out.now) (omega (arith, c.if-place-out.true))) refl

pub returns-then-place-out-clause-put : goal.returns-then-place-out-clause-put
returns-then-place-out-clause-put c before first long is =
    let room : length first ≡ length c.args.out.now = sym (ap length is ∙ length-laid_over (indexes before) first) in
    is
    ∙ sym (indexes-full before (descendants c.args.cell c.args.r) first
    (omega (arith, room, long, c.if-place-out.true)))

pub returns-clause-end : goal.returns-clause-end
returns-clause-end c =
    let long : length (descendants c.args.cell c.args.r) ≡ 1 =
    ap length (descendants-own c.args.cell c.args.r c.requires.own) in
    rw (long, is_no_more (c.args.place + 1) (length c.args.out.now) (omega (arith, c.if-place-out.false))) refl

pub returns-clause-put : goal.returns-clause-put
returns-clause-put c before first long is =
    let room : length first ≡ length c.args.out.now = sym (ap length is ∙ length-laid_over (indexes before) first) in
    rw c.raw.ensures.number (put-next before [] c.args.cell first c.args.out.now c.args.place (omega (arith, long))
    (omega (arith, room, c.if-place-out.false))
    (is ∙ ap (λ l. laid_over (indexes l) first) (sym (append-nil before))))
    ∙ ap (λ l. laid_over (indexes (before ++ l)) first) (sym (descendants-own c.args.cell c.args.r c.requires.own))
