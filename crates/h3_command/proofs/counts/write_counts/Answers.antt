use Rattle.std.proofs.lemmas.Iterator.Consumers.{YieldsList-from_first}
use Rattle.h3_command.specs.CountLines.{lines_left}
use Rattle.h3_command.proofs.counts.write_counts.Goals as goal

pub returns : goal.returns
returns g c cells told =
    c.write_lines.ensures _ (YieldsList-from_first (λ x. x) lines_left _ (c.new.ensures cells told)).runs
