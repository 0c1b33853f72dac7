-- Answers of any number of lines.
use Rattle.std.specs.Prelude.{◌≡◌, ℕ, List, Option}
use Rattle.std.specs.Iterator.{AlwaysYields}
use Rattle.std.specs.List.{flat_map}
use Rattle.h3_lines.specs.Answer.{Answer, written}

-- GivesLines steps line answer items: the answer is the lines of all items that an iterator has to give, in order, and
-- no error
pub record GivesLines {I S : Type 0} (steps : S → Option I → S → Type 0) (line : I → List ℕ) (answer : Answer)
    (items : S) : Type 0 where
  pub all : List I
  pub yields : AlwaysYields steps (λ x. x) items all
  pub is : answer ≡ written (flat_map line all)
