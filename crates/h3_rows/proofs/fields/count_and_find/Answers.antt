use Rattle.std.proofs.Common.{◌≡◌, ◌+◌, ◌∙◌, suc, length, ap, arith, false, length-append, ℕ, refl}
use Rattle.h3_lines.specs.Pieces.{cut}
use Rattle.h3_lines.specs.PiecesLaws.{cut_at_end}
use Rattle.h3_rows.proofs.Finding.{Finds, cuts_first, field_here, field_last, finds_end, finds_here, finds_later}
use Rattle.h3_rows.proofs.fields.count_and_find.Goals.{then-passed-before, else-passed-before}
use Rattle.h3_rows.proofs.fields.count_and_find.Goals as goal

pub loop-field-preserved : goal.loop-field-preserved
loop-field-preserved c =
    let a = c.args in
    let l = c.loop-field in
    let cuts = c.in-Ok.ensures.cut in
    let one : length (cut a.separator a.quotes false l.rest.now)
    ≡ suc (length (cut a.separator a.quotes false c.in-Ok.after.now))
    = ap length (cuts_first a.separator a.quotes l.rest.now _ c.in-Ok.after.now cuts) in
    let after = c.in-Ok.after.now in
    let field : Finds a.separator a.quotes a.row.now a.before (l.passed + 1) after c.if-passed-before.found =
    elim c.if-passed-before.branch [
      | then-passed-before w ↦ rw w.found-is (
        omega (arith, w.if-passed-before.true),
        finds_here a.separator a.quotes a.row.now a.before l.passed l.rest.now l.found w.if-passed-before.true
            l.invariant.field
            ∙ field_here a.separator a.quotes l.rest.now c.in-Ok.field.now c.in-Ok.after.now 0 refl cuts,
      )
      | else-passed-before w ↦ rw w.found-is (finds_later a.separator a.quotes a.row.now a.before l.passed l.rest.now
          c.in-Ok.field.now c.in-Ok.after.now l.found w.if-passed-before.false cuts l.invariant.field)
    ] in
    record {
      counted = omega (arith, l.invariant.counted, one);
      short = omega (arith, l.invariant.short, ap length cuts.split, length-append {A = ℕ});
      field = field;
    }

pub returns-then-passed-before-2-clause-count : goal.returns-then-passed-before-2-clause-count
returns-then-passed-before-2-clause-count c =
    let last : length (cut c.args.separator c.args.quotes false c.loop-field.rest.now) ≡ 1
    = ap length (cut_at_end c.args.separator c.args.quotes false c.loop-field.rest.now
    c.in_default.ensures.uncut.uncut) in
    omega (arith, c.loop-field.invariant.counted, last)

pub returns-then-passed-before-2-clause-field : goal.returns-then-passed-before-2-clause-field
returns-then-passed-before-2-clause-field c =
    let a = c.args in
    let l = c.loop-field in
    finds_here a.separator a.quotes a.row.now a.before l.passed l.rest.now l.found c.if-passed-before-2.true
    l.invariant.field
    ∙ field_last a.separator a.quotes _ l.rest.now 0 refl c.in_default.ensures.uncut

pub returns-clause-count : goal.returns-clause-count
returns-clause-count c =
    let last : length (cut c.args.separator c.args.quotes false c.loop-field.rest.now) ≡ 1
    = ap length (cut_at_end c.args.separator c.args.quotes false c.loop-field.rest.now
    c.in_default.ensures.uncut.uncut) in
    omega (arith, c.loop-field.invariant.counted, last)

pub returns-clause-field : goal.returns-clause-field
returns-clause-field c =
    let a = c.args in
    let l = c.loop-field in
    finds_end a.separator a.quotes a.row.now a.before l.passed l.rest.now _ l.found c.if-passed-before-2.false
    c.in_default.ensures.uncut l.invariant.field
