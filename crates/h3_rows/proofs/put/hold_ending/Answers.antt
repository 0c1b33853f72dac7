use Rattle.std.proofs.Common.{◌≡◌, ◌+◌, ◌-◌, arith, length, replicate, take, drop, ap, ◌∙◌, ℕ, length-take, length-drop}
use Rattle.std.proofs.lemmas.List.{length-replicate}
use Rattle.h3_rows.proofs.Blocks.{all_put}
use Rattle.h3_rows.proofs.put.hold_ending.Goals as goal

pub returns-clause-held : goal.returns-clause-held
returns-clause-held c =
    let size = length-replicate {A = ℕ} c.args.returns 13 in
    let part : length (take (c.args.at + c.args.returns - c.args.at) (drop c.args.at c.args.block.now))
    ≡ c.args.returns =
    omega (arith, length-take {A = ℕ}, length-drop {A = ℕ}, c.told-block, c.requires) in
    let put =
    all_put c.args.block.now c.fill.new.self (replicate c.args.returns 13) c.args.at
    (c.args.at + c.args.returns - c.args.at) 10 (c.fill.ensures.after (λ y h. h) ∙ ap (λ n. replicate n 13) part)
    (omega (arith, size)) (omega (arith, size, c.told-block, c.requires)) in
    rw size at put
