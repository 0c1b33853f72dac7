use Rattle.std.proofs.Common.{◌≡◌, ◌<◌, ◌++◌, [], ◌∙◌, ap, append-nil, arith, get_or, length, subst, sym, take}
use Rattle.std.proofs.lemmas.List.{length-map}
use Rattle.std.proofs.lemmas.Result.{err_from_is_err_and}
use Rattle.std.specs.List.{flat_map}
use Rattle.h3_lines.specs.Answering.{FailsPush, Moves}
use Rattle.h3_lines.specs.EachLaws.{moves_none}
use Rattle.h3_lines.specs.Write.{sink_use}
use Rattle.h3_rows.specs.Areas.{names_in, span_in}
use Rattle.h3_command.specs.AreaCounts.{count_row}
use Rattle.h3_command.specs.AreaTally.{named_counts}
use Rattle.h3_command.proofs.CountRows.{name_there, rows_fail, rows_put}
use Rattle.h3_command.proofs.area_counts.put_rows.Goals as goal

pub loop-number-init : goal.loop-number-init
loop-number-init g c = record {
  within = c.requires.within;
  moves =
      subst
      (λ l. Moves g.W.Sink.taken g.W.Sink.has_failed l (take c.args.end c.args.block.now) c.args.out.now c.args.out.now)
      (sym (append-nil (take c.args.end c.args.block.now))) (moves_none g.W.Sink.taken g.W.Sink.has_failed _ _);
}

pub put_row-requires : goal.put_row-requires
put_row-requires g c = c.loop-number.invariant.within

pub loop-number-preserved : goal.loop-number-preserved
loop-number-preserved g c =
    let names = names_in c.args.names.now.bytes.items c.args.names.now.spans.items in
    let number = c.loop-number.number in
    let there : number < length names =
    omega (
      arith,
      c.loop-number-test.true,
      c.requires.size,
      length-map c.args.names.now.spans.items (span_in c.args.names.now.bytes.items),
    ) in
    let name : c.unwrap_or-name.result.now ≡ get_or names number [] =
    ap (λ b. b.now) c.unwrap_or-name.ensures ∙ name_there (λ b. b.now) c.get.result _ names number there
    c.get.ensures.some c.get.ensures.none in
    let held = take c.loop-number.last c.loop-number.block in
    let row =
    subst (λ l. Moves g.W.Sink.taken g.W.Sink.has_failed
    (held ++ count_row c.args.separator (l, get_or c.args.counts.now number 0)) (take c.in_ok-last.last
    c.put_row.new.block) c.loop-number.out c.put_row.new.out) name c.in_ok-last.ensures.ok in
    record {
      within = c.in_ok-last.ensures.within;
      moves =
          rows_put g.W.Sink.taken g.W.Sink.has_failed _ c.args.separator names c.args.counts.now number held _ _ _ _
          c.loop-number.invariant.moves row;
    }

pub returns-in_err-last-clause-err : goal.returns-in_err-last-clause-err
returns-in_err-last-clause-err g c =
    let p = err_from_is_err_and c.from_residual.result c.from_residual.ensures.1 in
    let names = names_in c.args.names.now.bytes.items c.args.names.now.spans.items in
    let number = c.loop-number.number in
    let there : number < length names =
    omega (
      arith,
      c.loop-number-test.true,
      c.requires.size,
      length-map c.args.names.now.spans.items (span_in c.args.names.now.bytes.items),
    ) in
    let name : c.unwrap_or-name.result.now ≡ get_or names number [] =
    ap (λ b. b.now) c.unwrap_or-name.ensures ∙ name_there (λ b. b.now) c.get.result _ names number there
    c.get.ensures.some c.get.ensures.none in
    let held = take c.loop-number.last c.loop-number.block in
    let out = sink_use g.W.Sink.taken g.W.Sink.has_failed c.loop-number.out c.put_row.new.out in
    let fails =
    subst (λ l. FailsPush (held ++ count_row c.args.separator (
      l,
      get_or c.args.counts.now number 0,
    )) out) name c.in_err-last.ensures.err in
    rw p.1 (rows_fail g.W.Sink.taken g.W.Sink.has_failed _ c.args.separator names c.args.counts.now number
    (length c.args.counts.now) held _ _ _ c.loop-number-test.true c.loop-number.invariant.moves fails)

pub returns-clause-ok : goal.returns-clause-ok
returns-clause-ok g c =
    let names = names_in c.args.names.now.bytes.items c.args.names.now.spans.items in
    let start = take c.args.end c.args.block.now in
    let all : c.loop-number.number ≡ length c.args.counts.now =
    omega (arith, c.loop-number-test.false, c.loop-number.auto.number-end) in
    subst (λ n. Moves g.W.Sink.taken g.W.Sink.has_failed
    (start ++ flat_map (count_row c.args.separator) (named_counts names c.args.counts.now n))
    (take c.loop-number.last c.loop-number.block)
    c.args.out.now c.loop-number.out) all c.loop-number.invariant.moves
