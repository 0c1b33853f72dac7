-- Bytes that are read page by page.
use Rattle.std.proofs.Common.{◌≡◌, ℕ, zero, suc, ◌+◌, ◌<◌, ◌≤◌, ◌*◌, ◌⊎◌, List, [], ◌∷◌, ◌++◌, length, take, Option, None, Some, ap, ◌∙◌, length-append, length-take, append_assoc, append-nil, add-one, arith, inl, inr, sym}
use Rattle.std.specs.Io.KnownBytes.{Consumes, IsAtEnd}
use Rattle.std.proofs.KnownBytes.{Consumes-trans}
use Rattle.h3_streams.specs.Stream.{HasLeft, Pulls}

-- The source had the bytes old left and now has those left. The bytes read were appended to the first text, in no more
-- reads than bytes, and in pages of at most this size.
pub record Reads (old now : Option (List ℕ)) (limit reads_left size : ℕ) (first text : List ℕ) : Type 0 where
  pub bytes : List ℕ
  pub consumed : Consumes old now bytes
  pub text_is : text ≡ first ++ bytes
  pub counted : limit ≤ reads_left + length bytes
  pub short : length bytes + reads_left * size ≤ limit * size

-- one page less is left
one_less : (reads reads' size : ℕ) → reads' + 1 ≡ reads → reads * size ≡ reads' * size + size
one_less reads reads' size e = rw (← e) (grind arith)

pub reads_more : {old now : Option (List ℕ)} {limit reads size : ℕ} {first text : List ℕ}
    → Reads old now limit reads size first text
    → (now' : Option (List ℕ)) (reads' : ℕ) (page : List ℕ) (n : ℕ) (text' : List ℕ)
    → Pulls now now' page n → 0 < n → n ≤ length page → length page ≡ size → reads' + 1 ≡ reads
    → text' ≡ text ++ take n page
    → Reads old now' limit reads' size first text'
reads_more {old} {now} {limit} {reads} {size} {first} {text} r now' reads' page n text' p some fits full count grown =
    let front : length (take n page) ≡ n = omega (arith, length-take {A = ℕ}) in
    let parts : length (r.bytes ++ take n page) ≡ length r.bytes + length (take n page) =
    length-append r.bytes (take n page) in
    let counted : limit ≤ reads + length r.bytes = r.counted in
    let short : length r.bytes + reads * size ≤ limit * size = r.short in
    let less : reads * size ≡ reads' * size + size = one_less reads reads' size count in
    record {
      bytes = r.bytes ++ take n page;
      consumed = Consumes-trans old now now' r.bytes (take n page) r.consumed p.taken;
      text_is = grown ∙ ap (λ (t : List ℕ). t ++ take n page) r.text_is ∙ append_assoc first r.bytes (take n page);
      counted = omega arith;
      short = omega arith;
    }

-- ---- the end of the reading

-- the bytes that were read, and those that are still left in the source
pub all_bytes : (old now : Option (List ℕ)) (bytes : List ℕ) → Consumes old now bytes
    → (rest : List ℕ) × HasLeft old (bytes ++ rest)
all_bytes None now bytes known = ([], tt)
all_bytes (Some xs) None bytes known = absurd known
all_bytes (Some xs) (Some ys) bytes known = (ys, known)

at_end : (old now : Option (List ℕ)) (bytes : List ℕ) → Consumes old now bytes → IsAtEnd now → HasLeft old bytes
at_end None now bytes known end = tt
at_end (Some xs) None bytes known end = absurd known
at_end (Some xs) (Some ys) bytes known end = known ∙ ap (λ l. bytes ++ l) end ∙ append-nil bytes

-- some bytes are left, whatever was read
pub reads_some : {old now : Option (List ℕ)} {limit reads size : ℕ} {first text : List ℕ}
    → Reads old now limit reads size first text → (bytes : List ℕ) × HasLeft old bytes
reads_some {old} {now} r = let (rest, held) = all_bytes old now r.bytes r.consumed in (r.bytes ++ rest, held)

-- a read fails, or none is left
pub reads_stopped : {old now : Option (List ℕ)} {limit reads size : ℕ} {first text : List ℕ}
    → Reads old now limit reads size first text → (failed : Type 0) → (reads ≡ 0) ⊎ failed
    → (bytes : List ℕ) × HasLeft old bytes × (failed ⊎ (limit ≤ length bytes))
reads_stopped {old} {now} {limit} {reads} r failed why =
    let (rest, held) = all_bytes old now r.bytes r.consumed in
    let counted : limit ≤ reads + length r.bytes = r.counted in
    let parts : length (r.bytes ++ rest) ≡ length r.bytes + length rest = length-append r.bytes rest in
    (r.bytes ++ rest, held, elim why [ inl none ↦ inr (omega arith) | inr f ↦ inl f ])
