use Rattle.std.proofs.Common.{◌≡◌, ◌*◌, ◌%◌, ◌^◌, ◌++◌, ◌∷◌, [], ap, length, lit<, map, take, ◌∙◌}
use Rattle.std.specs.Char.{digit_char}
use Rattle.std.proofs.lemmas.List.{length-map}
use Rattle.h3_index.specs.Digits.{last_digits}
use Rattle.h3_index.proofs.DigitsLaws.{below-last_digits, length-last_digits}
use Rattle.h3_index.proofs.LaneLaws.{ended_by, moved_up}
use Rattle.h3_index.proofs.text.lanes.line_lanes.Goals as goal

pub lettered-digits-requires-clause-digits : goal.lettered-digits-requires-clause-digits
lettered-digits-requires-clause-digits c =
    rw c.apart.ensures (below-last_digits 16 16 (c.args.number * 2 ^ 4 % 2 ^ 64) (lit< tt))

pub returns : goal.returns
returns c =
    let digits = last_digits 16 16 (c.args.number * 2 ^ 4 % 2 ^ 64) in
    let is : c.lettered-digits.result ≡ map digit_char digits =
    c.lettered-digits.ensures ∙ ap (map digit_char) c.apart.ensures in
    let size : length c.lettered-digits.result ≡ 16 =
    ap length is ∙ length-map digits digit_char ∙ length-last_digits 16 16 (c.args.number * 2 ^ 4 % 2 ^ 64) in
    ended_by c.lettered-digits.result size ∙ ap (λ l. take 15 l ++ 10 ∷ []) is
    ∙ ap (λ l. l ++ 10 ∷ []) (moved_up c.args.number)
