use Rattle.std.proofs.Common.{◌≡◌, ℕ, ◌+◌, ◌<◌, List, ◌++◌, ◌∷◌, [], get_or, take, drop, length, ap, ◌∙◌, arith, subst, sym, take_all, take-append-drop}
use Rattle.std.proofs.lemmas.Grind.{flat_map-append}
use Rattle.std.proofs.lemmas.List.{flat_map_more, take_more}
use Rattle.std.proofs.lemmas.Result.{err_from_is_err_and}
use Rattle.std.specs.List.{flat_map}
use Rattle.h3_index.specs.Cell.{Address}
use Rattle.h3_lines.specs.Answering.{FailsPush, Moves}
use Rattle.h3_lines.specs.EachLaws.{moves_none, moves_then, push_more, push_then}
use Rattle.h3_lines.specs.Write.{sink_use}
use Rattle.h3_lines.proofs.Written.{push_written, writes_held}
use Rattle.h3_lines.proofs.write.write_cells_lines.Goals as goal

-- the lines of one cell more
one_more : (text : Address → List ℕ) (cells : List Address) (i : ℕ) (x : Address) → i < length cells
    → x ≡ get_or cells i x → flat_map text (take (i + 1) cells) ≡ flat_map text (take i cells) ++ text x
one_more text cells i x lt is =
    ap (flat_map text) (take_more cells i x lt ∙ ap (λ y. take i cells ++ y ∷ []) (sym is))
    ∙ sym (flat_map_more text [] (take i cells) x)

-- the lines of all cells, about one of them
about_one : (text : Address → List ℕ) (cells : List Address) (i : ℕ) (x : Address) → i < length cells
    → x ≡ get_or cells i x
    → flat_map text cells ≡ (flat_map text (take i cells) ++ text x) ++ flat_map text (drop (i + 1) cells)
about_one text cells i x lt is =
    ap (flat_map text) (sym (take-append-drop (i + 1) cells))
    ∙ flat_map-append text (take (i + 1) cells) (drop (i + 1) cells)
    ∙ ap (λ l. l ++ flat_map text (drop (i + 1) cells)) (one_more text cells i x lt is)

pub loop-cell-init : goal.loop-cell-init
loop-cell-init g c = record { moves = moves_none g.W.Sink.taken g.W.Sink.has_failed _ _; within = omega arith }

pub loop-cell-preserved : goal.loop-cell-preserved
loop-cell-preserved g c =
    let text = g.F.CellLines.text_of c.args.function.now in
    let cells = c.args.cells.now in
    let gives = c.lines_of.ensures.gives in
    let lines : text c.cell-item.result ≡ flat_map g.F.Item.Line.line_of gives.all = ap (λ a. a.output) gives.is in
    let done = flat_map text (take c.loop-cell.cell-index cells) in
    record {
      moves =
          subst (λ l. Moves g.W.Sink.taken g.W.Sink.has_failed l
          (take c.in_ok-end.end c.put_lines.new.block) c.args.out.now c.put_lines.new.out)
          (ap (λ l. done ++ l) (sym lines) ∙ sym
          (one_more text cells c.loop-cell.cell-index c.cell-item.result c.loop-cell-test.true c.cell-item.is))
          (moves_then g.W.Sink.taken g.W.Sink.has_failed done _ _ _ _ _ _ c.loop-cell.invariant.moves
          (c.in_ok-end.ensures.ok gives.all gives.yields));
      within = c.in_ok-end.ensures.within;
    }

pub returns-in_err-end : goal.returns-in_err-end
returns-in_err-end g c =
    let text = g.F.CellLines.text_of c.args.function.now in
    let cells = c.args.cells.now in
    let gives = c.lines_of.ensures.gives in
    let lines : text c.cell-item.result ≡ flat_map g.F.Item.Line.line_of gives.all = ap (λ a. a.output) gives.is in
    let out = sink_use g.W.Sink.taken g.W.Sink.has_failed c.args.out.now c.put_lines.new.out in
    let done = flat_map text (take c.loop-cell.cell-index cells) in
    let own = flat_map g.F.Item.Line.line_of gives.all in
    let later = flat_map text (drop (c.loop-cell.cell-index + 1) cells) in
    let p = err_from_is_err_and c.from_residual.result c.from_residual.ensures.1 in
    let fails : FailsPush ((done ++ own) ++ later) out =
    push_more (done ++ own) later out (push_then g.W.Sink.taken g.W.Sink.has_failed done _ own _ _ _
    c.loop-cell.invariant.moves (c.in_err-end.ensures.err gives.all gives.yields)) in
    let whole : (done ++ own) ++ later ≡ flat_map text cells =
    ap (λ l. (done ++ l) ++ later) (sym lines)
    ∙ sym (about_one text cells c.loop-cell.cell-index c.cell-item.result c.loop-cell-test.true c.cell-item.is) in
    rw (p.1, p.2) (push_written (flat_map text cells) out (subst (λ l. FailsPush l out) whole fails))

pub returns : goal.returns
returns g c =
    let text = g.F.CellLines.text_of c.args.function.now in
    let cells = c.args.cells.now in
    let all : take c.loop-cell.cell-index cells ≡ cells =
    take_all c.loop-cell.cell-index cells (omega (arith, c.loop-cell-test.false)) in
    let left = take c.loop-cell.end c.loop-cell.block in
    writes_held g.W.Sink.taken g.W.Sink.has_failed c.args.out.now c.loop-cell.out c.write_answer.new.out
    (flat_map text cells) left c.write_answer.result
    (subst (λ l. Moves g.W.Sink.taken g.W.Sink.has_failed
    (flat_map text l) left c.args.out.now c.loop-cell.out) all c.loop-cell.invariant.moves) c.write_answer.ensures
