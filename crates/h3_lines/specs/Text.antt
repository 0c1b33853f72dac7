-- Texts that are answers.
use Rattle.std.specs.Prelude.{ℕ, List, take}
use Rattle.h3_lines.specs.declared.text.Text.{Text}

-- the text's own bytes
abbrev pub text_in : Text → List ℕ
text_in text = take text.count text.bytes.now
