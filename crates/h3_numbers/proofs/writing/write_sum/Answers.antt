use Rattle.std.proofs.Common.{◌≡◌, ◌*◌, ◌+◌, ◌^◌, ◌<◌, ◌++◌, sym, ap, ◌∙◌, arith, rules, unsigned_abs}
use Rattle.std.proofs.lemmas.Int.{ints, to_z-of_z}
use mir.Syntax.{w128}
use mir.Val.{SFits}
use Rattle.h3_numbers.specs.Reading.{parsed_decimal, signed}
use Rattle.h3_numbers.specs.Sum.{sum_units}
use Rattle.h3_numbers.specs.Writing.{size_text, sum_text}
use Rattle.h3_numbers.proofs.TextLaws.{signed_text}
use Rattle.h3_numbers.proofs.writing.write_sum.Goals as goal

pub returns-clause-text : goal.returns-clause-text
returns-clause-text c =
    let size = c.size_of-size.result in
    let n = size.whole * 10 ^ 18 + size.fraction in
    let whole_fits : SFits w128 c.carried-whole.result.0 = search rules in
    let rest_fits : SFits w128 c.carried-whole.result.1 = search rules in
    let equal_whole = to_z-of_z w128 c.carried-whole.result.0 whole_fits in
    let equal_rest = to_z-of_z w128 c.carried-whole.result.1 rest_fits in
    let same = rw (equal_whole, equal_rest) at c.size_of-size.ensures.units in
    let units : signed size.negative n ≡ sum_units c.args.sum = same ∙ c.carried-whole.ensures.units in
    c.put_size.ensures.put ∙ ap (λ l. l ++ size_text n) c.put_sign-after_sign.ensures.put
    ∙ sym (signed_text size.negative n c.size_of-size.ensures.some) ∙ ap sum_text units

pub returns-clause-reads_back : goal.returns-clause-reads_back
returns-clause-reads_back c =
    let bound : unsigned_abs (sum_units c.args.sum) < 10 ^ 64 = omega (arith, ints) in
    ap parsed_decimal (returns-clause-text c) ∙ c.sums_read_back.ensures.same (sum_units c.args.sum) bound
