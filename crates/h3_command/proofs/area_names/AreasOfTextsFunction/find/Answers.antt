use Rattle.std.proofs.Common.{rules, ◌≡◌, ◌∙◌, [], Ok, ap, get_or, sym}
use Rattle.h3_lines.specs.Answer.{printed, written}
use Rattle.h3_lines.specs.EachTexts.{lines_or}
use Rattle.h3_regions.specs.Areas.{areas_of}
use Rattle.h3_rows.specs.Areas.{names_in}
use Rattle.h3_command.specs.Areas.{name_lines}
use Rattle.h3_command.specs.Required.{cell_given}
use Rattle.h3_command.proofs.AreasAnswered.{numbers_named}
use Rattle.h3_command.proofs.area_names.AreasOfTextsFunction.find.Goals as goal

pub returns-clause-ok : goal.returns-clause-ok
returns-clause-ok c =
    let self = c.args.self.now in
    let none = self.none.now in
    let names = names_in self.names.now.bytes.items self.names.now.spans.items in
    let cell = c.in_ok-cell_given.field-0 in
    let given : cell_given c.args.index ≡ Ok cell = search rules in
    ap (printed (name_lines none names self.areas)) given
    ∙ ap written (numbers_named none names (areas_of self.areas cell)
    ∙ ap (lines_or none (λ n. get_or names n [])) (sym c.areas_of.ensures.is))
