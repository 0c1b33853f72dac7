use Rattle.std.proofs.Common.{◌≡◌, ◌+◌, ◌*◌, ◌++◌, ◌∷◌, [], ℕ, List, arith, ap, length, length-append, refl, sym, take, ◌∙◌}
use Rattle.std.specs.List.{flat_map}
use Rattle.h3_index.specs.Cell.{Address, is_pentagon, number_of}
use Rattle.h3_index.specs.Descendants.{child}
use Rattle.h3_index.specs.Text.{text_of}
use Rattle.h3_index.proofs.SiblingLineLaws.{byte_small, child_line, few_steps, first_count, first_put, length-children, line_more, lines_whole, parts_made, six_children, steps_below, steps_more, two_count, two_put}
use Rattle.h3_index.proofs.text.lines.put_children_lines.Goals as goal
use Rattle.h3_index.proofs.text.lines.put_children_lines.Goals.{then-not-is_pentagon, else-not-is_pentagon}

abbrev line : Address → List ℕ
line c = text_of (number_of c) ++ 10 ∷ []

pub put_sibling-end-requires-then-not-is_pentagon-clause-byte :
    goal.put_sibling-end-requires-then-not-is_pentagon-clause-byte
put_sibling-end-requires-then-not-is_pentagon-clause-byte c =
    let p = c.args.parent in
    let h =
    parts_made p c.child-first.result c.raw-number.result c.resolution.result c.from-after.result c.from.result
    c.line_lanes-line.result c.resolution.ensures.valid c.requires.coarse c.resolution.ensures.number
    c.child-first.ensures.is c.raw-number.ensures.valid c.raw-number.ensures.number c.from-after.ensures
    c.from.ensures c.line_lanes-line.ensures in
    byte_small p _ _ _ _ 1 _ h (omega arith)
    (λ t. absurd (cc (sym c.is_pentagon.ensures ∙ c.if-not-is_pentagon.true, t))) (omega arith)

pub loop-digit-init : goal.loop-digit-init
loop-digit-init c =
    let p = c.args.parent in
    let h =
    parts_made p c.child-first.result c.raw-number.result c.resolution.result c.from-after.result c.from.result
    c.line_lanes-line.result c.resolution.ensures.valid c.requires.coarse c.resolution.ensures.number
    c.child-first.ensures.is c.raw-number.ensures.valid c.raw-number.ensures.number c.from-after.ensures
    c.from.ensures c.line_lanes-line.ensures in
    let front = take c.args.at c.args.bytes.now in
    let first : take c.put_sibling-end.result c.put_sibling-end.new.bytes ≡ front ++ line (child p 0) =
    c.put_sibling-end.ensures.line
    ∙ ap (λ l. front ++ l) (child_line p _ _ _ _ 0 _ h (omega arith) (λ _ e. omega (arith, e)) (omega arith)) in
    elim c.if-not-is_pentagon.branch [
      | then-not-is_pentagon w ↦
          let hexagon = sym c.is_pentagon.ensures ∙ w.if-not-is_pentagon.true in
          rw (w.end-is, w.bytes-is) (record {
            put =
                two_put line p (is_pentagon p) _ _ _ hexagon first
                (w.put_sibling-end-then-not-is_pentagon.ensures.line
                ∙ ap (λ l. take c.put_sibling-end.result c.put_sibling-end.new.bytes ++ l)
                (child_line p _ _ _ _ 1 _ h (omega arith) (λ t. absurd (cc (hexagon, t))) (omega arith)));
            end =
                omega (
                  arith,
                  w.put_sibling-end-then-not-is_pentagon.ensures.end,
                  c.put_sibling-end.ensures.end,
                  two_count (is_pentagon p) hexagon,
                );
          })
      | else-not-is_pentagon w ↦
          let pentagon = sym c.is_pentagon.ensures ∙ w.if-not-is_pentagon.false in
          rw (w.end-is, w.bytes-is) (record {
            put = first_put line p (is_pentagon p) _ _ pentagon first;
            end = omega (arith, c.put_sibling-end.ensures.end, first_count (is_pentagon p) pentagon);
          })
    ]

pub put_sibling-end-requires-in-loop-digit-clause-byte :
    goal.put_sibling-end-requires-in-loop-digit-clause-byte
put_sibling-end-requires-in-loop-digit-clause-byte c =
    let p = c.args.parent in
    let h =
    parts_made p c.child-first.result c.raw-number.result c.resolution.result c.from-after.result c.from.result
    c.line_lanes-line.result c.resolution.ensures.valid c.requires.coarse c.resolution.ensures.number
    c.child-first.ensures.is c.raw-number.ensures.valid c.raw-number.ensures.number c.from-after.ensures
    c.from.ensures c.line_lanes-line.ensures in
    let d = c.loop-digit.digit in
    byte_small p _ _ _ _ d _ h c.loop-digit-test.true (λ _ e. omega (arith, e, c.loop-digit.auto.digit)) refl

pub put_sibling-end-requires-in-loop-digit-clause-room :
    goal.put_sibling-end-requires-in-loop-digit-clause-room
put_sibling-end-requires-in-loop-digit-clause-room c =
    omega (
      arith,
      c.loop-digit.invariant.end,
      few_steps (is_pentagon c.args.parent) c.loop-digit.digit,
      c.loop-digit-test.true,
      c.requires.room,
    )

pub loop-digit-preserved : goal.loop-digit-preserved
loop-digit-preserved c =
    let p = c.args.parent in
    let h =
    parts_made p c.child-first.result c.raw-number.result c.resolution.result c.from-after.result c.from.result
    c.line_lanes-line.result c.resolution.ensures.valid c.requires.coarse c.resolution.ensures.number
    c.child-first.ensures.is c.raw-number.ensures.valid c.raw-number.ensures.number c.from-after.ensures
    c.from.ensures c.line_lanes-line.ensures in
    let d = c.loop-digit.digit in
    let more = steps_more (is_pentagon p) d c.loop-digit.auto.digit in
    rw more (record {
      put =
          c.put_sibling-end-in-loop-digit.ensures.line
          ∙ ap (λ l. take c.loop-digit.end c.loop-digit.bytes ++ l) (child_line p _ _ _ _ d _ h c.loop-digit-test.true
          (λ _ e. omega (arith, e, c.loop-digit.auto.digit)) refl)
          ∙ line_more line p _ _ (steps_below (is_pentagon p) d) d c.loop-digit.invariant.put;
      end =
          omega (
            arith,
            c.put_sibling-end-in-loop-digit.ensures.end,
            c.loop-digit.invariant.end,
            length-append (steps_below (is_pentagon p) d) (d ∷ []),
          );
    })

seven : (c : goal.After-loop-digit) → c.loop-digit.digit ≡ 7
seven c = omega (arith, c.loop-digit.auto, c.loop-digit-test.false)

pub returns-clause-end : goal.returns-clause-end
returns-clause-end c =
    let p = c.args.parent in
    c.loop-digit.invariant.end ∙ ap (λ d. c.args.at + 16 * length (steps_below (is_pentagon p) d)) (seven c)
    ∙ ap (λ n. c.args.at + 16 * n) (sym (length-children p))

pub returns-clause-few : goal.returns-clause-few
returns-clause-few c = omega (arith, length-children c.args.parent, few_steps (is_pentagon c.args.parent) 7)

pub returns-clause-some : goal.returns-clause-some
returns-clause-some c = six_children c.args.parent

pub returns-clause-lines : goal.returns-clause-lines
returns-clause-lines c =
    let p = c.args.parent in
    c.loop-digit.invariant.put
    ∙ ap (λ d. take c.args.at c.args.bytes.now ++ flat_map (λ e. line (child p e)) (steps_below (is_pentagon p) d))
    (seven c)
    ∙ ap (λ l. take c.args.at c.args.bytes.now ++ l) (lines_whole line p)
