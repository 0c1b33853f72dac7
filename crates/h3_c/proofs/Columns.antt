-- A column, one outcome more at a time.
use Rattle.std.proofs.Common.{◌≡◌, ℕ, zero, suc, ◌+◌, ◌<◌, ◌≤◌, List, [], ◌∷◌, ◌++◌, length, map, take, slice_set, slice_index_or, nat_le, ◌==◌, ◌&&◌, ◌↔◌, IsTrue, is_ok, is_err, Bool, true, false, Result, Ok, Err, refl, ap, sym, ◌∙◌, arith}
use Rattle.std.specs.Int.{from_bool}
use Rattle.std.proofs.Math.Bool.{and-false, and-true}
use Rattle.std.proofs.lemmas.Bool.{false≢true, le-leb}
use Rattle.std.proofs.lemmas.Bool.Decides.{nat_tests}
use Rattle.std.proofs.lemmas.List.{length-map, map-append}
use Rattle.std.specs.Result.{result_unwrap_or}
use Rattle.h3_index.specs.Error.{error_number}
use Rattle.h3_index.specs.declared.error.H3Error.{H3Error}
use Rattle.h3_index.specs.declared.error.H3Error.TheVariants.{Failed, Domain, ResDomain, CellInvalid, DirEdgeInvalid, Pentagon, DuplicateInput, NotNeighbors, ResMismatch, MemoryAlloc}
use Rattle.h3_c.specs.Column.{first_code, first_place}
use Rattle.h3_c.specs.Lists.{laid_over}
use Rattle.h3_c.proofs.Laid.{laid_over-snoc}

-- ---- the items up to one

up_to-snoc : {A : Type 0} (f : ℕ → A) (hs : List ℕ) (i : ℕ) → i < length hs
    → map f (take (suc i) hs) ≡ map f (take i hs) ++ f (slice_index_or hs i 0) ∷ []
up_to-snoc f [] i room = absurd (omega (arith, room))
up_to-snoc f (h ∷ hs) zero room = refl
up_to-snoc f (h ∷ hs) (suc i) room = ap (λ l. f h ∷ l) (up_to-snoc f hs i (omega (arith, room)))

pub up_to-next : {A : Type 0} (f : ℕ → A) (hs : List ℕ) (i : ℕ) (r : A) → i < length hs → r ≡ f (slice_index_or hs i 0)
    → map f (take (i + 1) hs) ≡ map f (take i hs) ++ r ∷ []
up_to-next f hs i r room is =
    let next : i + 1 ≡ suc i = omega arith in
    ap (λ n. map f (take n hs)) next ∙ up_to-snoc f hs i room ∙ ap (λ x. map f (take i hs) ++ x ∷ []) (sym is)

pub length-up_to : {A : Type 0} (f : ℕ → A) (hs : List ℕ) (i : ℕ) → i ≤ length hs → length (map f (take i hs)) ≡ i
length-up_to f hs zero room = refl
length-up_to f [] (suc i) room = absurd (omega (arith, room))
length-up_to f (h ∷ hs) (suc i) room = ap suc (length-up_to f hs i (omega (arith, room)))

pub whole : {A : Type 0} (f : ℕ → A) (hs : List ℕ) → map f (take (length hs) hs) ≡ map f hs
whole f [] = refl
whole f (h ∷ hs) = ap (λ l. f h ∷ l) (whole f hs)

-- ---- the first error

pub error_number-some : (e : H3Error) → error_number e ≡ 0 → ⊥
error_number-some Failed is = omega (arith, is)
error_number-some Domain is = omega (arith, is)
error_number-some ResDomain is = omega (arith, is)
error_number-some CellInvalid is = omega (arith, is)
error_number-some DirEdgeInvalid is = omega (arith, is)
error_number-some Pentagon is = omega (arith, is)
error_number-some DuplicateInput is = omega (arith, is)
error_number-some NotNeighbors is = omega (arith, is)
error_number-some ResMismatch is = omega (arith, is)
error_number-some MemoryAlloc is = omega (arith, is)

is_error : (e : H3Error) → (error_number e == 0) ≡ false
is_error e = let some = error_number-some e in grind (arith, nat_tests, some)

pub code-ok : {A : Type 0} (rs : List (Result A H3Error)) (v : A) → first_code rs ≡ 0 → first_code (rs ++ Ok v ∷ []) ≡ 0
unfolding first_code
code-ok [] v none = refl
code-ok (Ok w ∷ rs) v none = code-ok rs v none
code-ok (Err d ∷ rs) v none = absurd (error_number-some d none)

-- whether there is no error, one outcome more at a time
whole-next : {A : Type 0} (rs : List (Result A H3Error)) (r : Result A H3Error)
    → (first_code (rs ++ r ∷ []) == 0) ≡ (first_code rs == 0) && is_ok r
unfolding first_code
whole-next [] (Ok v) = refl
whole-next [] (Err e) = is_error e
whole-next (Ok w ∷ rs) r = whole-next rs r
whole-next (Err d ∷ rs) r = rw (is_error d) refl

-- whether none is missed, one outcome more at a time
pub missed-next : {A : Type 0} (m : ℕ) (rs : List (Result A H3Error)) (r : Result A H3Error)
    → (m == 0) ≡ (first_code rs == 0) → (m + from_bool (is_err r) == 0) ≡ (first_code (rs ++ r ∷ []) == 0)
missed-next m rs (Ok v) e =
    let same : m + 0 ≡ m = omega arith in
    ap (λ n. n == 0) same ∙ e ∙ sym (whole-next rs (Ok v) ∙ and-true (first_code rs == 0))
missed-next m rs (Err d) e =
    let some : (m + 1 == 0) ≡ false = grind (arith, nat_tests) in
    some ∙ sym (whole-next rs (Err d) ∙ and-false (first_code rs == 0))

pub few-next : (m i : ℕ) (b : Bool) → m ≤ i → m + from_bool b ≤ i + 1
few-next m i true h = omega (arith, h)
few-next m i false h = omega (arith, h)

pub tells : (b : Bool) (n : ℕ) → b ≡ (n == 0) → IsTrue b ↔ (n ≡ 0)
tells b zero e = rw e (λ _. refl, λ _. refl)
tells b (suc n) e =
    let other : (suc n == 0) ≡ false = grind (arith, nat_tests) in
    rw (e, other) (λ t. absurd (false≢true t), λ z. absurd (omega (arith, z)))

-- the first error is found
pub found : {A : Type 0} (f : ℕ → Result A H3Error) (hs : List ℕ) (i : ℕ) (e : H3Error) → i < length hs
    → first_code (map f (take i hs)) ≡ 0 → Err e ≡ f (slice_index_or hs i 0)
    → (first_code (map f hs) ≡ error_number e) × (first_place (map f hs) ≡ i)
unfolding first_code first_place
found f [] i e room none is = absurd (omega (arith, room))
found f (h ∷ hs) zero e room none is = rw (← is) (refl, refl)
found {A = A} f (h ∷ hs) (suc i) e room none is =
    by_first (f h) none (λ none-2. found f hs i e (omega (arith, room)) none-2 is)
  where
    by_first : (r : Result A H3Error) → first_code (r ∷ map f (take i hs)) ≡ 0
        → (first_code (map f (take i hs)) ≡ 0 → (first_code (map f hs) ≡ error_number e) × (first_place (map f hs) ≡ i))
        → (first_code (r ∷ map f hs) ≡ error_number e) × (first_place (r ∷ map f hs) ≡ suc i)
    by_first (Ok w) none-2 deeper = let rest = deeper none-2 in (rest.0, ap suc rest.1)
    by_first (Err d) none-2 deeper = absurd (error_number-some d none-2)

pub place-none : {A : Type 0} (rs : List (Result A H3Error)) → first_code rs ≡ 0 → first_place rs ≡ length rs
unfolding first_code first_place
place-none [] none = refl
place-none (Ok w ∷ rs) none = ap suc (place-none rs none)
place-none (Err d ∷ rs) none = absurd (error_number-some d none)

-- ---- the values

values-snoc : {A : Type 0} (missing : A) (rs : List (Result A H3Error)) (r : Result A H3Error) (old : List A)
    → length rs < length old
    → laid_over (map (λ q. result_unwrap_or q missing) (rs ++ r ∷ [])) old
    ≡ slice_set (laid_over (map (λ q. result_unwrap_or q missing) rs) old) (length rs) (result_unwrap_or r missing)
values-snoc missing rs r old room =
    ap (λ l. laid_over l old) (map-append (λ q. result_unwrap_or q missing) rs (r ∷ []))
    ∙ laid_over-snoc (map (λ q. result_unwrap_or q missing) rs) old (result_unwrap_or r missing) (rw length-map room)
    ∙ ap (λ n. slice_set (laid_over (map (λ q. result_unwrap_or q missing) rs) old) n (result_unwrap_or r missing))
    (length-map rs (λ q. result_unwrap_or q missing))

pub values-next : {A : Type 0} (missing : A) (rs : List (Result A H3Error)) (r : Result A H3Error) (old out : List A)
    (n : ℕ) (v : A)
    → length rs ≡ n → length rs < length old
    → out ≡ laid_over (map (λ q. result_unwrap_or q missing) rs) old → v ≡ result_unwrap_or r missing
    → slice_set out n v ≡ laid_over (map (λ q. result_unwrap_or q missing) (rs ++ r ∷ [])) old
values-next missing rs r old out n v long room is put = rw (is, sym long, put) (sym (values-snoc missing rs r old room))

-- ---- the test of the room

pub fits : {A : Type 0} (rs : List (Result A H3Error)) (room : ℕ) → length rs ≤ room → nat_le (length rs) room ≡ true
fits rs room h = le-leb (length rs) room h
