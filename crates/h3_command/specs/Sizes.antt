-- The numbers of descendants of cells that are added up one after another. The implementation that states these laws
-- and proofs alone cite this file.
use Rattle.std.proofs.Common.{◌≡◌, ℕ, Bool, false, List, [], ◌++◌, length, append-nil, append_assoc, subst, sym}
use Rattle.std.specs.Prelude.{nat_lt}
use Rattle.std.specs.List.{list_any}
use Rattle.h3_index.specs.Cell.{Address, resolution}
use Rattle.h3_set.specs.Uncompaction.{uncompacted}

-- whether one of the cells is finer than the resolution; and where none is, how many cells they uncompact to
pub record IsSizeOf (r : ℕ) (cells : List Address) (finer : Bool) (total : ℕ) : Type 0 where
  pub is_finer : finer ≡ list_any (λ c. nat_lt r (resolution c)) cells
  pub is_total : finer ≡ false → total ≡ length (uncompacted cells r)

-- whatever cells were added up before, these too
abbrev pub SizesMore : ℕ → Bool → ℕ → List Address → Bool → ℕ → Type 0
SizesMore r finer total cells finer' total' =
    (before : List Address) → IsSizeOf r before finer total → IsSizeOf r (before ++ cells) finer' total'

pub sizes_none : (r : ℕ) (finer : Bool) (total : ℕ) → SizesMore r finer total [] finer total
sizes_none r finer total before h = subst (λ cells. IsSizeOf r cells finer total) (sym (append-nil before)) h

pub sizes_then : (r r' : ℕ) (f1 f2 f3 : Bool) (n1 n2 n3 : ℕ) (xs ys : List Address) → r' ≡ r
    → SizesMore r f1 n1 xs f2 n2 → SizesMore r' f2 n2 ys f3 n3
    → SizesMore r f1 n1 (xs ++ ys) f3 n3
sizes_then r r' f1 f2 f3 n1 n2 n3 xs ys same first second before h =
    let more = subst (λ s. SizesMore s f2 n2 ys f3 n3) same second in
    subst (λ cells. IsSizeOf r cells f3 n3) (append_assoc before xs ys) (more (before ++ xs) (first before h))
