-- A beginning of bytes.
use Rattle.std.specs.Prelude.{◌≡◌, ℕ, List, ◌++◌}

-- SomeBeginning P bytes: some beginning of the bytes has the property
pub record SomeBeginning (P : List ℕ → Type 0) (bytes : List ℕ) : Type 0 where
  pub part : List ℕ
  pub rest : List ℕ
  pub split : bytes ≡ part ++ rest
  pub holds : P part
