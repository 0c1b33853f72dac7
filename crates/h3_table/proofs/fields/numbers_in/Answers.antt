use Rattle.std.proofs.Common.{◌∙◌, sym, arith}
use Rattle.std.proofs.lemmas.List.{length-set}
use Rattle.csv.specs.Records.{fields_of}
use Rattle.h3_table.proofs.FieldLaws.{field-none, numbers-more, numbers-refused, numbers-done}
use Rattle.h3_table.proofs.fields.numbers_in.Goals as goal

pub returns-in_default : goal.returns-in_default
returns-in_default g c =
    let v = rw c.in_default.is at c.get.ensures.value in
    let past = field-none (fields_of c.args.fields.now) c.loop-i.i (sym v) in absurd (omega arith)

pub returns-in_default-number_in : goal.returns-in_default-number_in
returns-in_default-number_in g c =
    let v = rw c.in-Some.is at c.get.ensures.value in
    sym (numbers-refused (fields_of c.args.fields.now) c.loop-i.numbers c.loop-i.i g.row.N c.in-Some.field.now
    (sym c.len.ensures ∙ c.if-len.false) c.loop-i.invariant.0 (sym v)
    (sym c.number_in.ensures ∙ c.in_default-number_in.is))

pub loop-i-preserved : goal.loop-i-preserved
loop-i-preserved g c =
    let v = rw c.in-Some.is at c.get.ensures.value in (
      c.loop-i.invariant.0
          ∙ numbers-more (fields_of c.args.fields.now) c.loop-i.numbers c.loop-i.i c.in-Some.field.now
          c.in-Some-number_in.number (sym v) (sym c.number_in.ensures ∙ c.in-Some-number_in.is) (omega arith),
      length-set c.loop-i.numbers c.loop-i.i c.in-Some-number_in.number ∙ c.loop-i.invariant.1,
    )

pub returns : goal.returns
returns g c =
    sym (numbers-done (fields_of c.args.fields.now) c.loop-i.numbers c.loop-i.i g.row.N
    (sym c.len.ensures ∙ c.if-len.false) c.loop-i.invariant.0 c.loop-i-test.false c.loop-i.invariant.1)
