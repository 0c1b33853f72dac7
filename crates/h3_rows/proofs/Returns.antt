-- The carriage returns at the end of a row.
use Rattle.std.proofs.Common.{◌≡◌, ℕ, zero, suc, ◌+◌, ◌-◌, ◌≤◌, ◌==◌, Bool, true, false, ◌&&◌, List, [], ◌∷◌, ◌++◌, length, take, get_or, replicate, if◌then◌else◌, sym, ap, ◌∙◌, refl, length-append, arith}
use Rattle.std.proofs.lemmas.Bool.{eqb-true}
use Rattle.std.proofs.lemmas.Bool.Decides.{nat_tests}
use Rattle.std.proofs.lemmas.List.{length-replicate, take_all, take_more}
use Rattle.std.proofs.lemmas.List.Folds.{list_all-append}
use Rattle.h3_lines.specs.PiecesLaws.{and_false}
use Rattle.h3_rows.specs.Row.{are_returns, returns_of, row_body}

and_true : (x : Bool) → (x && true) ≡ x
and_true true = refl
and_true false = refl

-- a row that is no carriage returns alone begins with its first byte
other_first : (b : ℕ) (bs : List ℕ) → are_returns (b ∷ bs) ≡ false → row_body (b ∷ bs) ≡ b ∷ row_body bs
other_first b bs other = rw other refl

other_returns : (b : ℕ) (bs : List ℕ) → are_returns (b ∷ bs) ≡ false → returns_of (b ∷ bs) ≡ returns_of bs
other_returns b bs other = rw other refl

pub body_then_returns : (line : List ℕ) → row_body line ++ returns_of line ≡ line
body_then_returns [] = refl
body_then_returns (b ∷ bs) =
    let go : (t : Bool) → are_returns (b ∷ bs) ≡ t
    → (if t then [] else b ∷ row_body bs) ++ (if t then b ∷ bs else returns_of bs) ≡ b ∷ bs =
    λ t.
    elim t as
    (λ t.
    are_returns (b ∷ bs) ≡ t
    → (if t then [] else b ∷ row_body bs) ++ (if t then b ∷ bs else returns_of bs) ≡ b ∷ bs) [
      | true ↦ λ is. refl
      | false ↦ λ is. ap (λ l. b ∷ l) (body_then_returns bs)
    ] in
    go (are_returns (b ∷ bs)) refl

pub returns_are : (line : List ℕ) → are_returns (returns_of line) ≡ true
returns_are [] = refl
returns_are (b ∷ bs) =
    let go : (t : Bool) → are_returns (b ∷ bs) ≡ t → are_returns (if t then b ∷ bs else returns_of bs) ≡ true =
    λ t.
    elim t as (λ t. are_returns (b ∷ bs) ≡ t → are_returns (if t then b ∷ bs else returns_of bs) ≡ true)
    [ true ↦ λ is. is | false ↦ λ is. returns_are bs ] in
    go (are_returns (b ∷ bs)) refl

both : (x y : Bool) → (x && y) ≡ true → (x ≡ true) × (y ≡ true)
both true y h = (refl, h)
both false y h = absurd (cc)

-- carriage returns alone are so many of them
pub all_returns : (bytes : List ℕ) → are_returns bytes ≡ true → bytes ≡ replicate (length bytes) 13
all_returns [] h = refl
all_returns (b ∷ bs) h =
    let (first, more) = both (b == 13) (are_returns bs) h in
    ap (λ x. x ∷ bs) (eqb-true b 13 first) ∙ ap (λ l. 13 ∷ l) (all_returns bs more)

pub many_returns : (n : ℕ) → are_returns (replicate n 13) ≡ true
many_returns zero = refl
many_returns (suc n) = many_returns n

-- carriage returns alone are all at the end
returns_body : (bytes : List ℕ) → are_returns bytes ≡ true → row_body bytes ≡ []
returns_body [] h = refl
returns_body (b ∷ bs) h = rw h refl

returns_all : (bytes : List ℕ) → are_returns bytes ≡ true → returns_of bytes ≡ bytes
returns_all [] h = refl
returns_all (b ∷ bs) h = rw h refl

-- more bytes, of which the first are not carriage returns alone
not_alone : (xs ys : List ℕ) → are_returns xs ≡ false → are_returns (xs ++ ys) ≡ false
not_alone xs ys other = list_all-append (λ b. b == 13) xs ys ∙ rw other refl

-- a byte at the end that is no carriage return
last_other : (xs : List ℕ) (b : ℕ) → (b == 13) ≡ false → row_body (xs ++ b ∷ []) ≡ xs ++ b ∷ []
last_other [] b other = rw other refl
last_other (x ∷ xs) b other =
    let mixed : are_returns (x ∷ (xs ++ b ∷ [])) ≡ false =
    list_all-append (λ b. b == 13) (x ∷ xs) (b ∷ []) ∙ rw other (and_false (are_returns (x ∷ xs))) in
    other_first x (xs ++ b ∷ []) mixed ∙ ap (λ l. x ∷ l) (last_other xs b other)

-- one more carriage return at the end
last_return : (xs : List ℕ) → row_body (xs ++ 13 ∷ []) ≡ row_body xs
last_return [] = refl
last_return (x ∷ xs) =
    let same : are_returns (x ∷ (xs ++ 13 ∷ [])) ≡ are_returns (x ∷ xs) =
    list_all-append (λ b. b == 13) (x ∷ xs) (13 ∷ []) ∙ and_true (are_returns (x ∷ xs)) in
    rw same (ap (λ l. if are_returns (x ∷ xs) then [] else x ∷ l) (last_return xs))

-- the last byte of a row
by_last : (rest : List ℕ) → 1 ≤ length rest → rest ≡ take (length rest - 1) rest ++ get_or rest (length rest - 1) 0 ∷ []
by_last rest some =
    let last = length rest - 1 in
    let count : last + 1 ≡ length rest = omega arith in
    sym (take_all (length rest) rest (omega arith)) ∙ ap (λ n. take n rest) (sym count)
    ∙ take_more rest last 0 (omega arith)

pub return_dropped : (rest : List ℕ) → 1 ≤ length rest → get_or rest (length rest - 1) 0 ≡ 13
    → row_body (take (length rest - 1) rest) ≡ row_body rest
return_dropped rest some is =
    sym (last_return (take (length rest - 1) rest))
    ∙ ap (λ b. row_body (take (length rest - 1) rest ++ b ∷ [])) (sym is) ∙ ap row_body (sym (by_last rest some))

pub other_kept : (rest : List ℕ) → 1 ≤ length rest → (get_or rest (length rest - 1) 0 == 13) ≡ false
    → row_body rest ≡ rest
other_kept rest some other =
    ap row_body (by_last rest some) ∙ last_other (take (length rest - 1) rest) (get_or rest (length rest - 1) 0) other
    ∙ sym (by_last rest some)

pub other_byte : (b : ℕ) → (b ≡ 13 → ⊥) → (b == 13) ≡ false
other_byte b other = grind (arith, nat_tests)

-- ---- a body and carriage returns

body_not_alone : (bs : List ℕ) → are_returns bs ≡ false → are_returns (row_body bs) ≡ false
body_not_alone [] other = other
body_not_alone (b ∷ bs) other =
    let go : (t : Bool) → (b == 13) ≡ t → are_returns (b ∷ row_body bs) ≡ false =
    λ t. elim t as (λ t. (b == 13) ≡ t → are_returns (b ∷ row_body bs) ≡ false) [
      | true ↦ λ is. (let later : are_returns bs ≡ false = rw is at other in rw is (body_not_alone bs later))
      | false ↦ λ is. rw is refl
    ] in
    ap are_returns (other_first b bs other) ∙ go (b == 13) refl

pub body_again : (line : List ℕ) → row_body (row_body line) ≡ row_body line
body_again [] = refl
body_again (b ∷ bs) =
    let go : (t : Bool) → are_returns (b ∷ bs) ≡ t
    → row_body (if t then [] else b ∷ row_body bs) ≡ (if t then [] else b ∷ row_body bs) =
    λ t.
    elim t as
    (λ t.
    are_returns (b ∷ bs) ≡ t
    → row_body (if t then [] else b ∷ row_body bs) ≡ (if t then [] else b ∷ row_body bs)) [
      | true ↦ λ is. refl
      | false ↦ λ is. (
          let mixed : are_returns (b ∷ row_body bs) ≡ false =
          ap are_returns (sym (other_first b bs is)) ∙ body_not_alone (b ∷ bs) is in
          other_first b (row_body bs) mixed ∙ ap (λ l. b ∷ l) (body_again bs))
    ] in
    go (are_returns (b ∷ bs)) refl

-- a row that does not end in a carriage return has other bytes, or none
bare_mixed : (x : ℕ) (xs : List ℕ) → row_body (x ∷ xs) ≡ x ∷ xs → are_returns (x ∷ xs) ≡ false
bare_mixed x xs bare =
    let go : (t : Bool) → are_returns (x ∷ xs) ≡ t → t ≡ false =
    λ t. elim t as (λ t. are_returns (x ∷ xs) ≡ t → t ≡ false) [
      | true ↦ λ is.
          (let none : (let l : List ℕ = [] in l) ≡ x ∷ xs = sym (returns_body (x ∷ xs) is) ∙ bare in absurd (cc none))
      | false ↦ λ is. refl
    ] in
    go (are_returns (x ∷ xs)) refl

tail_of : (x y : ℕ) (xs ys : List ℕ) → x ∷ xs ≡ y ∷ ys → xs ≡ ys
tail_of x y xs ys is = ap (λ l. elim l as (λ l. List ℕ) [ [] ↦ [] | b ∷ bs ↦ bs ]) is

pub body_of_row : (body : List ℕ) (n : ℕ) → row_body body ≡ body → row_body (body ++ replicate n 13) ≡ body
body_of_row [] n bare = returns_body (replicate n 13) (many_returns n)
body_of_row (x ∷ xs) n bare =
    let mixed = bare_mixed x xs bare in
    let rest : row_body xs ≡ xs = tail_of x x (row_body xs) xs (sym (other_first x xs mixed) ∙ bare) in
    other_first x (xs ++ replicate n 13) (not_alone (x ∷ xs) (replicate n 13) mixed)
    ∙ ap (λ l. x ∷ l) (body_of_row xs n rest)

pub returns_of_row : (body : List ℕ) (n : ℕ) → row_body body ≡ body
    → returns_of (body ++ replicate n 13) ≡ replicate n 13
returns_of_row [] n bare = returns_all (replicate n 13) (many_returns n)
returns_of_row (x ∷ xs) n bare =
    let mixed = bare_mixed x xs bare in
    let rest : row_body xs ≡ xs = tail_of x x (row_body xs) xs (sym (other_first x xs mixed) ∙ bare) in
    other_returns x (xs ++ replicate n 13) (not_alone (x ∷ xs) (replicate n 13) mixed) ∙ returns_of_row xs n rest

-- a row and what is cut off at its end are the line
pub line_again : (line : List ℕ) → row_body line ++ replicate (length line - length (row_body line)) 13 ≡ line
line_again line =
    let whole = body_then_returns line in
    let size : length (returns_of line) ≡ length line - length (row_body line) =
    omega (arith, ap length whole, length-append (row_body line) (returns_of line)) in
    ap (λ n. row_body line ++ replicate n 13) (sym size)
    ∙ ap (λ l. row_body line ++ l) (sym (all_returns (returns_of line) (returns_are line))) ∙ whole

pub body_shorter : (line : List ℕ) → length (row_body line) ≤ length line
body_shorter line = omega (arith, ap length (body_then_returns line), length-append (row_body line) (returns_of line))

pub row_length : (body : List ℕ) (n : ℕ) → length (body ++ replicate n 13) ≡ length body + n
row_length body n = length-append body (replicate n 13) ∙ ap (λ k. length body + k) (length-replicate n 13)
