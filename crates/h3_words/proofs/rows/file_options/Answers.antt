use Rattle.std.proofs.Common.{rules, ◌≡◌, ◌∙◌, ap, Some}
use Rattle.clap.specs.Words.{found_of}
use Rattle.h3_words.specs.Rows.{found_texts, separator_of}
use Rattle.h3_words.proofs.Separators.{agreed_separator}
use Rattle.h3_words.proofs.rows.file_options.Goals as goal

pub returns : goal.returns
returns c agree region zone =
    let text = found_texts (found_of c.args.matches.now) in
    let separator : Some c.unwrap_or.result ≡ separator_of text =
    ap (λ b. Some b) c.unwrap_or.ensures
    ∙ agreed_separator text c.separator-byte.result c.separator-byte.ensures.named agree in
    search (rules, separator, c.in_ok-field.ensures.read region zone, c.in-Some.is)
