-- Cells that are counted one after another. The implementation that states these laws and proofs alone cite this file.
use Rattle.std.proofs.Common.{◌≡◌, ℕ, List, [], ◌++◌, append-nil, append_assoc, subst, sym}
use Rattle.h3_index.specs.Cell.{Address}
use Rattle.h3_regions.specs.Counting.{AreCounts}

-- whatever cells were counted before, the counts of these too
abbrev pub CountsMore : List Address → List ℕ → ℕ → List Address → List ℕ → ℕ → Type 0
CountsMore zones counts others cells counts' others' =
    (before : List Address) → AreCounts zones before counts others → AreCounts zones (before ++ cells) counts' others'

pub counts_none : (zones : List Address) (counts : List ℕ) (others : ℕ)
    → CountsMore zones counts others [] counts others
counts_none zones counts others before h =
    subst (λ cells. AreCounts zones cells counts others) (sym (append-nil before)) h

pub counts_then : (zones zones' : List Address) (c1 c2 c3 : List ℕ) (n1 n2 n3 : ℕ) (xs ys : List Address)
    → zones' ≡ zones → CountsMore zones c1 n1 xs c2 n2 → CountsMore zones' c2 n2 ys c3 n3
    → CountsMore zones c1 n1 (xs ++ ys) c3 n3
counts_then zones zones' c1 c2 c3 n1 n2 n3 xs ys same first second before h =
    let more = subst (λ z. CountsMore z c2 n2 ys c3 n3) same second in
    subst (λ cells. AreCounts zones cells c3 n3) (append_assoc before xs ys) (more (before ++ xs) (first before h))
