use Rattle.std.proofs.Common.{◌≡◌, ◌∙◌, ◌∷◌, ◌++◌, [], List, ℕ, ap, arith, drop, length, length-take-le, sym, take, take-append-drop}
use Rattle.std.proofs.lemmas.List.{take-append-le}
use Rattle.h3_lines.proofs.text.Text.put.Goals as goal

pub returns-then-self-ge-SHORT-clause-line : goal.returns-then-self-ge-SHORT-clause-line
returns-then-self-ge-SHORT-clause-line c =
    let count = c.args.self.count in
    let bytes : List ℕ = c.args.self.bytes.now in
    let long : length (take 16 bytes) ≡ 16 = length-take-le 16 bytes (omega (arith, c.if-self-ge-SHORT.true)) in
    let own : take count (take 16 bytes) ≡ take count bytes =
    sym (take-append-le count (take 16 bytes) (drop 16 bytes) (omega (arith, long, c.if-self-le-SHORT.true)))
    ∙ ap (take count) (take-append-drop 16 bytes) in
    c.put_ended.ensures.line ∙ ap (λ l. take c.args.at c.args.block.now ++ (l ++ c.args.last ∷ [])) own
