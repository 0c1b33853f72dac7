use Rattle.std.proofs.Common.{rules}
use Rattle.h3_lines.proofs.each.answer_pages.Goals as goal

pub returns : goal.returns
returns g c = search (rules, c.answer_lines-ending.ensures.ends, c.answer_lines-ending.ensures.same)
