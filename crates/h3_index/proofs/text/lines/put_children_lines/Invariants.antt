use Rattle.std.proofs.Common.{◌≡◌, ◌+◌, ◌*◌, ◌++◌, ◌∷◌, [], length, take}
use Rattle.std.specs.List.{flat_map}
use Rattle.h3_index.specs.Cell.{is_pentagon, number_of}
use Rattle.h3_index.specs.Descendants.{child}
use Rattle.h3_index.specs.Text.{text_of}
use Rattle.h3_index.proofs.SiblingLineLaws.{steps_below}
use Rattle.h3_index.proofs.text.lines.put_children_lines.Given as goal

abbrev pub invariant-loop-digit : goal.invariant-loop-digit
invariant-loop-digit l = record {
  put : take l.end l.bytes
      ≡ take l.fn.at l.fn.bytes
      ++ flat_map (λ d. text_of (number_of (child l.fn.parent d)) ++ 10 ∷ [])
      (steps_below (is_pentagon l.fn.parent) l.digit);
  end : l.end ≡ l.fn.at + 16 * length (steps_below (is_pentagon l.fn.parent) l.digit);
}
