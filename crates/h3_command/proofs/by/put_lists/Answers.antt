use Rattle.std.proofs.Common.{◌≡◌, ◌<◌, ◌++◌, [], ◌∙◌, ℕ, List, ap, append-nil, arith, get_or, length, subst, sym, take}
use Rattle.std.proofs.lemmas.List.{length-map}
use Rattle.std.proofs.lemmas.Result.{err_from_is_err_and}
use Rattle.std.specs.List.{flat_map, range_with_len}
use Rattle.h3_lines.specs.Answering.{FailsPush, Moves}
use Rattle.h3_lines.specs.EachLaws.{moves_none}
use Rattle.h3_lines.specs.Write.{sink_use}
use Rattle.h3_command.specs.By.{value_lines}
use Rattle.h3_command.specs.ByValue.{part_of}
use Rattle.h3_rows.specs.Areas.{names_in, span_in}
use Rattle.h3_command.proofs.ListTexts.{text_fails, text_put}
use Rattle.h3_command.proofs.CountRows.{name_there}
use Rattle.h3_command.proofs.by.put_lists.Goals as goal

pub loop-number-init : goal.loop-number-init
loop-number-init g c = record {
  within = c.requires.within;
  moves =
      subst
      (λ l. Moves g.W.Sink.taken g.W.Sink.has_failed l (take c.args.end c.args.block.now) c.args.out.now c.args.out.now)
      (sym (append-nil (take c.args.end c.args.block.now))) (moves_none g.W.Sink.taken g.W.Sink.has_failed _ _);
}

pub loop-number-preserved : goal.loop-number-preserved
loop-number-preserved g c =
    let names = names_in c.args.names.now.bytes.items c.args.names.now.spans.items in
    let number = c.loop-number.number in
    let there : number < length names =
    omega (
      arith,
      c.loop-number-test.true,
      c.requires.size,
      length-map c.args.names.now.spans.items (span_in c.args.names.now.bytes.items),
    ) in
    let name : c.unwrap_or-name.result.now ≡ get_or names number [] =
    ap (λ b. b.now) c.unwrap_or-name.ensures ∙ name_there (λ b. b.now) c.get.result _ names number there
    c.get.ensures.some c.get.ensures.none in
    let own =
    g.F.ListOfValue.listed c.args.function.now (part_of c.args.cells.now (get_or c.args.parts.now number (0, 0))) in
    let text : ℕ → List ℕ =
    λ n. value_lines c.args.separator (get_or names n [])
    (g.F.ListOfValue.listed c.args.function.now (part_of c.args.cells.now (get_or c.args.parts.now n (0, 0)))) in
    let held = take c.loop-number.last c.loop-number.block in
    let one =
    subst (λ l. Moves g.W.Sink.taken g.W.Sink.has_failed (held ++ value_lines c.args.separator l own)
    (take c.in_ok-last.last c.put.new.block) c.loop-number.out c.put.new.out) name c.in_ok-last.ensures.ok in
    record {
      within = c.in_ok-last.ensures.within;
      moves =
          text_put g.W.Sink.taken g.W.Sink.has_failed text
          (take c.args.end c.args.block.now) number held _ _ _ _ c.loop-number.invariant.moves one;
    }

pub returns-in_err-last-clause-err : goal.returns-in_err-last-clause-err
returns-in_err-last-clause-err g c =
    let p = err_from_is_err_and c.from_residual.result c.from_residual.ensures.1 in
    let names = names_in c.args.names.now.bytes.items c.args.names.now.spans.items in
    let number = c.loop-number.number in
    let there : number < length names =
    omega (
      arith,
      c.loop-number-test.true,
      c.requires.size,
      length-map c.args.names.now.spans.items (span_in c.args.names.now.bytes.items),
    ) in
    let name : c.unwrap_or-name.result.now ≡ get_or names number [] =
    ap (λ b. b.now) c.unwrap_or-name.ensures ∙ name_there (λ b. b.now) c.get.result _ names number there
    c.get.ensures.some c.get.ensures.none in
    let own =
    g.F.ListOfValue.listed c.args.function.now (part_of c.args.cells.now (get_or c.args.parts.now number (0, 0))) in
    let text : ℕ → List ℕ =
    λ n. value_lines c.args.separator (get_or names n [])
    (g.F.ListOfValue.listed c.args.function.now (part_of c.args.cells.now (get_or c.args.parts.now n (0, 0)))) in
    let held = take c.loop-number.last c.loop-number.block in
    let out = sink_use g.W.Sink.taken g.W.Sink.has_failed c.loop-number.out c.put.new.out in
    let fails =
    subst (λ l. FailsPush (held ++ value_lines c.args.separator l own) out) name c.in_err-last.ensures.err in
    rw p.1 (text_fails g.W.Sink.taken g.W.Sink.has_failed text (take c.args.end c.args.block.now) number
    (length c.args.parts.now) held _ _ _ c.loop-number-test.true c.loop-number.invariant.moves fails)

pub returns-clause-ok : goal.returns-clause-ok
returns-clause-ok g c =
    let names = names_in c.args.names.now.bytes.items c.args.names.now.spans.items in
    let text : ℕ → List ℕ =
    λ n. value_lines c.args.separator (get_or names n [])
    (g.F.ListOfValue.listed c.args.function.now (part_of c.args.cells.now (get_or c.args.parts.now n (0, 0)))) in
    let all : c.loop-number.number ≡ length c.args.parts.now =
    omega (arith, c.loop-number-test.false, c.loop-number.auto.number-end) in
    subst (λ n. Moves g.W.Sink.taken g.W.Sink.has_failed
    (take c.args.end c.args.block.now ++ flat_map text (range_with_len 0 n)) (take c.loop-number.last
    c.loop-number.block) c.args.out.now c.loop-number.out) all c.loop-number.invariant.moves
