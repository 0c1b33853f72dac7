use Rattle.std.proofs.Common.{arith, ℕ, zero, suc, ◌≡◌, ◌<◌, ◌+◌, ◌++◌, ◌∷◌, [], List, length, take, drop, get_or, append_assoc, refl, sym, ap, ◌∙◌}
use Rattle.std.proofs.lemmas.List.{length-append}
use Rattle.h3_index.specs.Cell.{Address}
use Rattle.h3_index.specs.Descendants.{descendants}
use Rattle.h3_set.specs.Uncompaction.{uncompacted}
use Rattle.h3_c.specs.Lists.{indexes, laid_over}
use Rattle.h3_c.proofs.Laid.{indexes-full, is_more}
use Rattle.h3_c.proofs.StartLaws.{has_no_room}
use Rattle.h3_c.proofs.sets.put_below_each.Goals as goal

-- those below one cell, after those below the cells before it
split : (cells : List Address) (i r : ℕ) (c : Address) → i < length cells → c ≡ get_or cells i c
    → uncompacted cells r ≡ (uncompacted (take i cells) r ++ descendants c r) ++ uncompacted (drop (suc i) cells) r
split [] i r c room is = absurd (omega (arith, room))
split (d ∷ cells) zero r c room is = ap (λ k. descendants k r ++ uncompacted cells r) (sym is)
split (d ∷ cells) (suc i) r c room is =
    ap (λ l. descendants d r ++ l) (split cells i r c (omega (arith, room)) is)
    ∙ sym (append_assoc (descendants d r) (uncompacted (take i cells) r ++ descendants c r)
    (uncompacted (drop (suc i) cells) r))
    ∙ ap (λ l. l ++ uncompacted (drop (suc i) cells) r)
    (sym (append_assoc (descendants d r) (uncompacted (take i cells) r) (descendants c r)))

pub loop-i-init : goal.loop-i-init
unfolding laid_over
loop-i-init c = record { place = refl; within = omega arith; put = refl }

pub returns-in-None-clause-fits : goal.returns-in-None-clause-fits
returns-in-None-clause-fits c =
    let r = c.args.r in
    let cells = c.args.cells.now in
    let i = c.loop-i.i in
    let k = c.index-cells-i.result in
    let before : List Address = uncompacted (take i cells) r in
    let whole = split cells i r k c.loop-i-test.true c.index-cells-i.is in
    let long : length (uncompacted cells r)
    ≡ length before + length (descendants k r) + length (uncompacted (drop (suc i) cells) r) =
    ap length whole ∙ length-append (before ++ descendants k r) (uncompacted (drop (suc i) cells) r)
    ∙ ap (λ n. n + length (uncompacted (drop (suc i) cells) r)) (length-append before (descendants k r)) in
    let full = has_no_room (c.loop-i.place + length (descendants k r)) _ c.in-None.ensures.end in
    let same : length c.loop-i.out ≡ length c.args.out.now = c.loop-i.auto.out in
    sym (is_more (length (uncompacted cells r)) (length c.args.out.now)
    (omega (arith, same, long, full, c.loop-i.invariant.place)))

pub returns-in-None-clause-put : goal.returns-in-None-clause-put
returns-in-None-clause-put c =
    let r = c.args.r in
    let cells = c.args.cells.now in
    let i = c.loop-i.i in
    let k = c.index-cells-i.result in
    let before : List Address = uncompacted (take i cells) r in
    let whole = split cells i r k c.loop-i-test.true c.index-cells-i.is in
    let full = has_no_room (c.loop-i.place + length (descendants k r)) _ c.in-None.ensures.end in
    let same : length c.loop-i.out ≡ length c.args.out.now = c.loop-i.auto.out in
    c.in-None.ensures.put before c.args.out.now (sym c.loop-i.invariant.place) c.loop-i.invariant.put
    ∙ sym (ap (λ l. laid_over (indexes l) c.args.out.now) whole
    ∙ indexes-full (before ++ descendants k r) (uncompacted (drop (suc i) cells) r) c.args.out.now
    (omega (arith, length-append before (descendants k r), full, same, c.loop-i.invariant.place)))
