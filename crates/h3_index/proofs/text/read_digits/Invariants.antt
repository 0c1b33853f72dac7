use Rattle.h3_index.proofs.TextLaws.{IsReading}
use Rattle.h3_index.proofs.text.read_digits.Given as goal

abbrev pub invariant-loop-digit : goal.invariant-loop-digit
invariant-loop-digit l = IsReading l.digits l.digit-index l.number
