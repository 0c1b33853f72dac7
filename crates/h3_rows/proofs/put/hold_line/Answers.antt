use Rattle.std.proofs.Common.{ℕ, List, ◌+◌, ◌-◌, ◌++◌, ◌∷◌, [], arith, length, replicate, take, sym, ap, ◌∙◌, append_assoc}
use Rattle.h3_rows.proofs.Blocks.{put_behind}
use Rattle.h3_rows.proofs.put.hold_line.Goals as goal

pub returns-clause-held : goal.returns-clause-held
returns-clause-held c =
    let r = c.args.row in
    let at = c.args.at in
    let body = r.body.now in
    let ending : List ℕ = replicate r.returns 13 ++ 10 ∷ [] in
    let put = put_behind c.args.block.now c.copy_from_slice.new.self body at (at + length body - at)
    c.copy_from_slice.ensures.after (omega (arith, c.told-block, c.requires)) in
    c.hold_ending.ensures.held ∙ ap (λ l. l ++ ending) put ∙ append_assoc (take at c.args.block.now) body ending
    ∙ ap (λ l. take at c.args.block.now ++ l) (sym (append_assoc body (replicate r.returns 13) (10 ∷ [])))
