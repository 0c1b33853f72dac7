-- Bytes that are put into a block, all of them.
use Rattle.std.proofs.Common.{◌≡◌, ℕ, ◌+◌, ◌<◌, ◌≤◌, List, [], ◌∷◌, ◌++◌, length, take, take_all, drop, set, sym, ap, ◌∙◌, length-take-le, arith}
use Rattle.std.proofs.Math.Seq.{take-append-add, take-append_seam}
use Rattle.h3_lines.specs.BlockLaws.{bytes_put}

-- all of the bytes are put, and one more
pub all_put : (block put bytes : List ℕ) (at k last : ℕ) → put ≡ bytes → k ≡ length bytes
    → at + length bytes < length block
    → take (at + length bytes + 1) (set (take at block ++ (put ++ drop k (drop at block))) (at + length bytes) last)
    ≡ take at block ++ (bytes ++ last ∷ [])
all_put block put bytes at k last is size room =
    let front : take (length bytes) bytes ≡ bytes = take_all (length bytes) bytes (omega arith) in
    bytes_put block put bytes at (length bytes) k last is (omega arith) size room
    ∙ ap (λ l. take at block ++ (l ++ last ∷ [])) front

-- all of the bytes are put
pub put_behind : (block put bytes : List ℕ) (at k : ℕ) → put ≡ bytes → at ≤ length block
    → take (at + length bytes) (take at block ++ (put ++ drop k (drop at block))) ≡ take at block ++ bytes
put_behind block put bytes at k is within =
    let rest = drop k (drop at block) in
    let front : at ≡ length (take at block) = sym (length-take-le at block within) in
    ap (λ l. take (at + length bytes) (take at block ++ (l ++ rest))) is
    ∙ ap (λ n. take (n + length bytes) (take at block ++ (bytes ++ rest))) front
    ∙ take-append-add (take at block) (bytes ++ rest) (length bytes)
    ∙ ap (λ l. take at block ++ l) (take-append_seam bytes rest)
