use Rattle.std.proofs.Common.{◌≡◌, ◌+◌, ◌++◌, ◌∷◌, [], arith, ap, length, refl, take, ◌∙◌}
use Rattle.std.proofs.lemmas.List.{length-append, length-take-le}
use Rattle.h3_index.specs.Cell.{number_of}
use Rattle.h3_index.specs.Text.{text_of}
use Rattle.h3_index.proofs.CellLineLaws.{length-text, line_made, put_once, text_before}
use Rattle.h3_index.proofs.text.lines.put_cell_line.Goals as goal

pub returns-clause-line : goal.returns-clause-line
returns-clause-line c =
    let line : c.line_lanes.result ≡ text_of (number_of c.args.cell) ++ 10 ∷ [] =
    c.line_lanes.ensures ∙ line_made c.args.cell c.raw.result c.raw.ensures.valid c.raw.ensures.number in
    let size : length c.line_lanes.result ≡ 16 =
    ap length line ∙ length-append (text_of (number_of c.args.cell)) (10 ∷ [])
    ∙ ap (λ n. n + 1) (length-text c.args.cell c.raw.ensures.valid) in
    put_once c.args.bytes.now c.line_lanes.result c.put_line.new.bytes c.args.at (c.args.at + 16) size c.requires.room
    c.put_line.ensures refl
    ∙ ap (λ l. take c.args.at c.args.bytes.now ++ l) line

pub returns-clause-text : goal.returns-clause-text
returns-clause-text c =
    text_before _ (take c.args.at c.args.bytes.now) (text_of (number_of c.args.cell)) c.args.at
    (length-take-le c.args.at c.args.bytes.now (omega (arith, c.requires.room)))
    (length-text c.args.cell c.raw.ensures.valid) (returns-clause-line c)
