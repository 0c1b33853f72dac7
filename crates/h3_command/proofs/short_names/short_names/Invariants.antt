use Rattle.std.proofs.Common.{◌≡◌, length}
use Rattle.h3_rows.specs.Areas.{names_in}
use Rattle.h3_command.specs.ShortNames.{AreShort}
use Rattle.h3_command.proofs.short_names.short_names.Given as goal

abbrev pub invariant-loop-number : goal.invariant-loop-number
invariant-loop-number l = record {
  size : length l.short.items ≡ l.number;
  copies : AreShort (names_in l.names.bytes.items l.names.spans.items) l.short.items;
}
