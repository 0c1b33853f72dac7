-- Bytes that are looked at sixteen at once. Private contracts and proofs alone cite this file.
use Rattle.std.specs.Prelude.{◌≡◌, ℕ, ◌==◌, ◌≤◌, ◌<◌, Bool, true, not, List, [], ◌∷◌, ◌++◌, ◌+◌, drop, take, get_or, if◌then◌else◌}
use Rattle.std.specs.List.{list_all}
use Rattle.std.specs.Int.{trailing_zeros, w64}
use Rattle.memchr.specs.Find.{is_byte}

-- the place of the lowest bit that is set, or 16
abbrev pub first_set : ℕ → ℕ
first_set mask = if mask == 0 then 16 else trailing_zeros w64 mask

-- of the sixteen bytes from a place on so many come before the first that passes the test
pub record StopsAfter (test : ℕ → Bool) (bytes : List ℕ) (at run : ℕ) : Type 0 where
  pub within : run ≤ 16
  pub before : list_all (λ b. not (test b)) (take run (drop at bytes)) ≡ true
  pub stops : run < 16 → test (get_or bytes (at + run) 0) ≡ true

-- a line feed is the last byte, and there is no other
pub record IsOneLine (bytes : List ℕ) : Type 0 where
  pub line : List ℕ
  pub split : bytes ≡ line ++ 10 ∷ []
  pub whole : list_all (λ b. not (is_byte 10 b)) line ≡ true
