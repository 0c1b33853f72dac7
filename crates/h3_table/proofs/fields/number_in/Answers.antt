use Rattle.std.proofs.Common.{◌≡◌, ◌<◌, ◌≤◌, ◌∙◌, true, false, length, sym, refl, arith, rules, get_or}
use Rattle.std.proofs.lemmas.Bool.Decides.{nat_tests}
use Rattle.h3_table.proofs.FieldLaws.{number-next, number-end, number_of_short}
use Rattle.h3_table.proofs.fields.number_in.Goals as goal
use Rattle.std.specs.Char.{is_ascii_digit}

pub returns-then-not-is_ascii_digit : goal.returns-then-not-is_ascii_digit
returns-then-not-is_ascii_digit c =
    let next = number-next c.args.field.now c.loop-byte.number c.loop-byte.byte-index (omega arith) in
    let none : is_ascii_digit (get_or c.args.field.now c.loop-byte.byte-index 0) ≡ false = search rules in
    sym (number_of_short c.args.field.now (omega arith) (omega arith) ∙ c.loop-byte.invariant.0 ∙ next ∙ rw none refl)

pub loop-byte-preserved : goal.loop-byte-preserved
loop-byte-preserved c =
    let next = number-next c.args.field.now c.loop-byte.number c.loop-byte.byte-index (omega arith) in
    let digit : is_ascii_digit (get_or c.args.field.now c.loop-byte.byte-index 0) ≡ true = search rules in
    let below : get_or c.args.field.now c.loop-byte.byte-index 0 ≤ 57 = grind (arith, nat_tests) in
    let one = c.loop-byte.invariant.1 in let two = c.loop-byte.invariant.2 in (
      c.loop-byte.invariant.0 ∙ next ∙ rw digit refl,
      omega arith,
      λ h. let k = one (omega arith) in omega arith,
      λ h. let k = two (omega arith) in omega arith,
    )

pub returns : goal.returns
returns c =
    let all =
    c.loop-byte.invariant.0 ∙ number-end c.args.field.now c.loop-byte.number c.loop-byte.byte-index (omega arith) in
    let some : 0 < length c.args.field.now = search rules in
    sym (number_of_short c.args.field.now some (omega arith) ∙ all)
