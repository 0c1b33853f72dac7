-- Laws of bytes that are put into a block. Proofs alone cite this file.
use Rattle.std.proofs.Common.{◌≡◌, ℕ, suc, ◌+◌, ◌<◌, ◌≤◌, List, [], ◌∷◌, ◌++◌, length, take, drop, set, sym, ap, ◌∙◌, refl, arith, append_assoc, length-append, length-drop, length-take-le}
use Rattle.std.proofs.lemmas.List.{take-append-le, take_more_set}

take_past : (xs ys : List ℕ) (n : ℕ) → take (length xs + n) (xs ++ ys) ≡ xs ++ take n ys
take_past [] ys n = let same : 0 + n ≡ n = omega arith in rw same refl
take_past (x ∷ xs) ys n =
    let next : suc (length xs) + n ≡ suc (length xs + n) = omega arith in rw next (ap (λ l. x ∷ l) (take_past xs ys n))

-- bytes put at a place of a block, and one more after the first of them
pub bytes_put : (block put bytes : List ℕ) (at count k last : ℕ) → put ≡ bytes → count ≤ length bytes → k ≡ length bytes
    → at + length bytes < length block
    → take (at + count + 1) (set (take at block ++ (put ++ drop k (drop at block))) (at + count) last)
    ≡ take at block ++ (take count bytes ++ last ∷ [])
bytes_put block put bytes at count k last is within size room =
    let rest = drop k (drop at block) in
    let whole = take at block ++ (bytes ++ rest) in
    let before : length (take at block) ≡ at = length-take-le at block (omega (arith, room)) in
    let after : length rest + k + at ≡ length block = omega (arith, length-drop {A = ℕ}, room, size) in
    let all : at + count < length whole =
    omega (
      arith,
      length-append (take at block) (bytes ++ rest),
      length-append bytes rest,
      before,
      after,
      room,
      size,
      within,
    ) in
    let front : take (at + count) whole ≡ take at block ++ take count bytes =
    ap (λ n. take (n + count) whole) (sym before) ∙ take_past (take at block) (bytes ++ rest) count
    ∙ ap (λ l. take at block ++ l) (take-append-le count bytes rest within) in
    rw is (take_more_set whole (at + count) last all ∙ ap (λ l. l ++ last ∷ []) front
    ∙ append_assoc (take at block) (take count bytes) (last ∷ []))
