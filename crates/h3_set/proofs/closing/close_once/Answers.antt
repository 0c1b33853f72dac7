use Rattle.std.proofs.Common.{◌≡◌, ◌≢◌, ◌+◌, ◌-◌, ◌<◌, length, take, drop, set, arith, sym, ap, subst, ◌∙◌}
use Rattle.std.proofs.lemmas.List.{take-set, take_all}
use Rattle.std.specs.List.{Contains}
use Rattle.h3_index.specs.Descendants.{children, ancestor_at}
use Rattle.h3_set.specs.Closing.{HasNoSet, IsRising}
use Rattle.h3_set.specs.Compacted.{parent_of}
use Rattle.h3_set.proofs.ClosedLaws.{front_closed, none_closed}
use Rattle.h3_set.proofs.EndLaws.{front_within, last_left, last_split, set_leads}
use Rattle.h3_set.proofs.closing.close_once.Goals as goal

pub siblings_at_end-count-requires : goal.siblings_at_end-count-requires
siblings_at_end-count-requires c =
    last_left c.args.cells.now c.index-cells-len.result c.requires.some c.index-cells-len.is

pub returns-then-count-eq0-clause-none : goal.returns-then-count-eq0-clause-none
returns-then-count-eq0-clause-none c = λ z.
    let cells = c.args.cells.now in
    let x = c.index-cells-len.result in
    let whole = last_split cells x c.requires.some c.index-cells-len.is in
    let none =
    none_closed c.cells_form_trees.ensures c.cells_form_intervals.ensures (take (length cells - 1) cells) x
    (subst IsRising (sym whole) c.requires.rising) c.requires.closed (λ pos i.
    subst (λ l. drop i l ≢ children (parent_of x)) (sym whole)
    (c.siblings_at_end-count.ensures.none c.if-count-eq0.true pos i)) in
    subst HasNoSet (whole ∙ sym (take_all (length cells) cells (omega arith))) none

pub returns-clause-leads : goal.returns-clause-leads
returns-clause-leads c =
    let tree = c.cells_form_trees.ensures in
    let cells = c.args.cells.now in
    let x = c.index-cells-len.result in
    let n = c.siblings_at_end-count.result in
    let many : 0 < c.siblings_at_end-count.result = omega (arith, c.if-count-eq0.false) in
    let found = c.siblings_at_end-count.ensures in
    let is : c.ancestor_at.result ≡ parent_of x =
    c.ancestor_at.ensures.is ∙ ap (λ k. ancestor_at x (k - 1)) c.resolution.ensures.number in
    let size : length (parent_of x).digits ≡ length x.digits - 1 =
    tree.resolution-ancestor_at x (length x.digits - 1) (omega arith) in
    set_leads tree c.cells_form_intervals.ensures cells (length cells - n) c.ancestor_at.result
    (omega (arith, many, c.requires.some)) c.ancestor_at.ensures.valid
    (omega (arith, ap (λ z. length z.digits) is, size, found.level many, c.resolution.ensures.valid.coarse))
    (found.siblings many ∙ ap children (sym is))

pub returns-clause-closed : goal.returns-clause-closed
returns-clause-closed c =
    let cells = c.args.cells.now in
    let from = length cells - c.siblings_at_end-count.result in
    let many : 0 < c.siblings_at_end-count.result = omega (arith, c.if-count-eq0.false) in
    let two : 1 < c.siblings_at_end-count.result = c.siblings_at_end-count.ensures.many many in
    let back : from + 1 - 1 ≡ from = omega arith in
    let same : take (from + 1 - 1) (set cells from c.ancestor_at.result) ≡ take from cells =
    ap (λ k. take k (set cells from c.ancestor_at.result)) back ∙ take-set cells from c.ancestor_at.result in
    front_closed (take (from + 1 - 1) (set cells from c.ancestor_at.result)) (take (length cells - 1) cells)
    (λ y m. front_within cells from (length cells - 1) y (omega (arith, two)) (subst (λ l. Contains l y) same m))
    c.requires.closed

pub returns-then-count-eq0-clause-some : goal.returns-then-count-eq0-clause-some
returns-then-count-eq0-clause-some c = c.requires.some

pub returns-then-count-eq0-clause-closed : goal.returns-then-count-eq0-clause-closed
returns-then-count-eq0-clause-closed c = c.requires.closed

pub returns-clause-none : goal.returns-clause-none
returns-clause-none c = λ e.
    let two : 1 < c.siblings_at_end-count.result =
    c.siblings_at_end-count.ensures.many (omega (arith, c.if-count-eq0.false)) in
    absurd (omega (arith, e))
