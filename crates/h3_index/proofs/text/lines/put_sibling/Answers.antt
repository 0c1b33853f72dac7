use Rattle.std.proofs.Common.{◌+◌, ◌-◌, ◌++◌, arith, ap, drop, length, refl, take, ◌∙◌}
use Rattle.h3_index.proofs.CellLineLaws.{put_pair}
use Rattle.h3_index.proofs.text.lines.put_sibling.Goals as goal

pub returns-clause-line : goal.returns-clause-line
returns-clause-line c =
    let at = c.args.at in
    let line = c.args.line in
    let m = c.args.before in
    put_pair c.args.bytes.now line c.pair-digits.result c.put_line.new.bytes at m (14 - m) (at + m) (at + 16)
    c.requires.sixteen (ap length c.pair-digits.ensures) (omega (arith, c.requires.within)) c.requires.room
    c.put_line.ensures refl refl
    ∙ ap (λ b. take at c.args.bytes.now ++ (take m line ++ (b ++ drop 2 (drop m line)))) c.pair-digits.ensures
