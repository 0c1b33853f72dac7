use Rattle.std.proofs.Common.{◌≡◌, ◌≤◌, ◌++◌, ℕ, List, length, take}
use Rattle.h3_lines.specs.Answering.{Moves}
use Rattle.h3_lines.specs.EachTexts.{numbered_lines}
use Rattle.h3_rows.specs.Line.{line_of}
use Rattle.h3_rows.specs.RowsAnswer.{rows_with}
use Rattle.h3_rows.proofs.each_texts.put_numbered.Given as goal

abbrev pub invariant-loop-number : goal.invariant-loop-number
invariant-loop-number g l = record {
  within : l.last ≤ 32768;
  puts : (done : List ℕ)
      × (rows_with l.fn.separator (g.F.TextsFunction.counts_quotes l.fn.function) l.fn.after (line_of l.fn.row)
      (numbered_lines (g.F.TextsFunction.text_of l.fn.function) l.fn.numbers) ≡ done ++ rows_with l.fn.separator
      (g.F.TextsFunction.counts_quotes l.fn.function) l.fn.after (line_of l.fn.row)
      (numbered_lines (g.F.TextsFunction.text_of l.fn.function) l.rest))
      × Moves g.W.Sink.taken g.W.Sink.has_failed (take l.fn.end l.fn.block ++ done)
      (take l.last l.block) l.fn.out l.out;
}

abbrev pub decreases-loop-number : goal.decreases-loop-number
decreases-loop-number g l = length l.rest
