use Rattle.std.proofs.Common.{◌≡◌, ◌∙◌, ℕ, List, Bor, length, sym, arith, map}
use Rattle.std.proofs.lemmas.List.{length-map}
use Rattle.csv.specs.Records.{fields_of}
use Rattle.h3_table.proofs.FieldLaws.{fields-length, fields-end, fields-same, fields-differ, field-none}
use Rattle.h3_table.proofs.fields.has_fields.Goals as goal

now_of : List (Bor (List ℕ)) → List (List ℕ)
now_of xs = map (λ (f : Bor (List ℕ)). f.now) xs

length-now : (xs : List (Bor (List ℕ))) → length (now_of xs) ≡ length xs
unfolding now_of
length-now xs = length-map xs (λ (f : Bor (List ℕ)). f.now)

pub returns-then-len-names : goal.returns-then-len-names
unfolding now_of
returns-then-len-names c =
    sym (fields-length (fields_of c.args.fields.now) (now_of c.args.names.now)
    (λ k. c.if-len-names.true (c.len.ensures ∙ k ∙ length-now c.args.names.now)))

pub returns : goal.returns
unfolding now_of
returns c =
    let n = length-now c.args.names.now in
    sym
    (c.loop-i.invariant
    ∙ fields-end (fields_of c.args.fields.now) (now_of c.args.names.now) c.loop-i.i (omega arith) (omega arith))

pub returns-in_default : goal.returns-in_default
returns-in_default c =
    let v = rw c.in_default.is at c.get.ensures.value in
    let past = field-none (fields_of c.args.fields.now) c.loop-i.i (sym v) in absurd (omega arith)

pub loop-i-preserved : goal.loop-i-preserved
loop-i-preserved c =
    let v = rw c.in-Some.is at c.get.ensures.value in
    c.loop-i.invariant
    ∙ fields-same (fields_of c.args.fields.now) c.args.names.now c.loop-i.i c.in-Some.field.now _ c.ne.result
    c.loop-i-test.true (sym v) c.ne.ensures c.if-ne.false

pub returns-then-ne : goal.returns-then-ne
returns-then-ne c =
    let v = rw c.in-Some.is at c.get.ensures.value in
    sym
    (c.loop-i.invariant
    ∙ fields-differ (fields_of c.args.fields.now) c.args.names.now c.loop-i.i c.in-Some.field.now _ c.ne.result
    c.loop-i-test.true (sym v) c.ne.ensures c.if-ne.true)
