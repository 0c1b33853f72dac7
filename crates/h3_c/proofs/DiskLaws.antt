-- Walks one after another, one walk more at a time.
use Rattle.std.proofs.Common.{◌≡◌, ℕ, zero, suc, ◌+◌, ◌-◌, ◌<◌, ◌==◌, List, [], ◌∷◌, ◌++◌, length, map, take, drop, slice_index_or, append_assoc, append-nil, flat_map, false, Result, Ok, Err, refl, ap, sym, ◌∙◌, arith}
use Rattle.std.proofs.lemmas.Bool.{ne_eqb}
use Rattle.std.proofs.lemmas.List.{length-append}
use Rattle.h3_index.specs.Cell.{Address}
use Rattle.h3_index.specs.declared.error.H3Error.{H3Error}
use Rattle.h3_c.specs.Disks.{whole_walks}
use Rattle.h3_c.specs.Lists.{indexes, laid_over}
use Rattle.h3_c.specs.Walks.{given, items_code}
use Rattle.h3_c.proofs.Columns.{error_number-some}
use Rattle.h3_c.proofs.Laid.{indexes-full}

-- ---- a walk that has no error and room

pub code-whole : {A : Type 0} (ws more : List (Result A H3Error)) (n : ℕ) → items_code ws n ≡ 0
    → items_code (ws ++ more) n ≡ items_code more (n - length ws)
unfolding items_code
code-whole [] more n none =
    let same : n - 0 ≡ n = omega arith in
    ap (items_code more) (sym same)
code-whole (Err e ∷ ws) more n none = absurd (error_number-some e none)
code-whole (Ok x ∷ ws) more zero none = absurd (omega (arith, none))
code-whole (Ok x ∷ ws) more (suc n) none =
    let same : n - length ws ≡ suc n - suc (length ws) = omega arith in
    code-whole ws more n none ∙ ap (items_code more) same

pub given-whole_more : {A : Type 0} (ws more : List (Result A H3Error)) (n : ℕ) → items_code ws n ≡ 0
    → given (ws ++ more) ≡ given ws ++ given more
unfolding given items_code
given-whole_more [] more n none = refl
given-whole_more (Err e ∷ ws) more n none = absurd (error_number-some e none)
given-whole_more (Ok x ∷ ws) more zero none = absurd (omega (arith, none))
given-whole_more (Ok x ∷ ws) more (suc n) none = ap (λ l. x ∷ l) (given-whole_more ws more n none)

pub length-given : {A : Type 0} (ws : List (Result A H3Error)) (n : ℕ) → items_code ws n ≡ 0
    → length (given ws) ≡ length ws
unfolding given items_code
length-given [] n none = refl
length-given (Err e ∷ ws) n none = absurd (error_number-some e none)
length-given (Ok x ∷ ws) zero none = absurd (omega (arith, none))
length-given (Ok x ∷ ws) (suc n) none = ap suc (length-given ws n none)

-- ---- a walk that has an error, or no room

pub code-ended : {A : Type 0} (ws more : List (Result A H3Error)) (n : ℕ) → (items_code ws n ≡ 0 → ⊥)
    → items_code (ws ++ more) n ≡ items_code ws n
unfolding items_code
code-ended [] more n some = absurd (some refl)
code-ended (Err e ∷ ws) more n some = refl
code-ended (Ok x ∷ ws) more zero some = refl
code-ended (Ok x ∷ ws) more (suc n) some = code-ended ws more n some

pub put-ended : (ws more : List (Result Address H3Error)) (before : List Address) (first : List ℕ) (n : ℕ)
    → (items_code ws n ≡ 0 → ⊥) → length first ≡ length before + n
    → laid_over (indexes (before ++ given (ws ++ more))) first ≡ laid_over (indexes (before ++ given ws)) first
unfolding given items_code
put-ended [] more before first n some long = absurd (some refl)
put-ended (Err e ∷ ws) more before first n some long = refl
put-ended (Ok x ∷ ws) more before first zero some long =
    indexes-full before (x ∷ given (ws ++ more)) first (omega (arith, long))
    ∙ sym (indexes-full before (x ∷ given ws) first (omega (arith, long)))
put-ended (Ok x ∷ ws) more before first (suc n) some long =
    ap (λ l. laid_over (indexes l) first) (sym (append_assoc before (x ∷ []) (given (ws ++ more))))
    ∙ put-ended ws more (before ++ x ∷ []) first n some (omega (arith, long, length-append before (x ∷ [])))
    ∙ ap (λ l. laid_over (indexes l) first) (append_assoc before (x ∷ []) (given ws))

-- ---- how many walks are whole

pub walks-whole : {A : Type 0} (ws : List (Result A H3Error)) (rest : List (List (Result A H3Error))) (n : ℕ)
    → items_code ws n ≡ 0 → whole_walks n (ws ∷ rest) ≡ suc (whole_walks (n - length ws) rest)
unfolding whole_walks
walks-whole ws rest n none = rw none refl

pub walks-ended : {A : Type 0} (ws : List (Result A H3Error)) (rest : List (List (Result A H3Error))) (n : ℕ)
    → (items_code ws n ≡ 0 → ⊥) → whole_walks n (ws ∷ rest) ≡ 0
unfolding whole_walks
walks-ended ws rest n some =
    let other : (items_code ws n == 0) ≡ false = ne_eqb (items_code ws n) 0 some in
    rw other refl

-- ---- lists of lists, one more

pub map-next : {A : Type 0} (f : ℕ → A) (hs : List ℕ) (i : ℕ) → i < length hs
    → map f (take (i + 1) hs) ≡ map f (take i hs) ++ f (slice_index_or hs i 0) ∷ []
map-next f hs i room =
    let next : i + 1 ≡ suc i = omega arith in
    ap (λ n. map f (take n hs)) next ∙ by_place f hs i room
  where
    by_place : {A : Type 0} (f : ℕ → A) (hs : List ℕ) (i : ℕ) → i < length hs
        → map f (take (suc i) hs) ≡ map f (take i hs) ++ f (slice_index_or hs i 0) ∷ []
    by_place f [] i room = absurd (omega (arith, room))
    by_place f (h ∷ hs) zero room = refl
    by_place f (h ∷ hs) (suc i) room = ap (λ l. f h ∷ l) (by_place f hs i (omega (arith, room)))

pub map-split : {A : Type 0} (f : ℕ → A) (hs : List ℕ) (i : ℕ) → i < length hs
    → map f hs ≡ map f (take i hs) ++ f (slice_index_or hs i 0) ∷ map f (drop (suc i) hs)
map-split f [] i room = absurd (omega (arith, room))
map-split f (h ∷ hs) zero room = refl
map-split f (h ∷ hs) (suc i) room = ap (λ l. f h ∷ l) (map-split f hs i (omega (arith, room)))

flat-one : {A : Type 0} (f : ℕ → List A) (hs : List ℕ) (i : ℕ) → i < length hs
    → flat_map f (take (suc i) hs) ≡ flat_map f (take i hs) ++ f (slice_index_or hs i 0)
flat-one f [] i room = absurd (omega (arith, room))
flat-one f (h ∷ hs) zero room = append-nil (f h)
flat-one f (h ∷ hs) (suc i) room =
    ap (λ l. f h ++ l) (flat-one f hs i (omega (arith, room)))
    ∙ sym (append_assoc (f h) (flat_map f (take i hs)) (f (slice_index_or hs i 0)))

pub flat-next : {A : Type 0} (f : ℕ → List A) (hs : List ℕ) (i : ℕ) → i < length hs
    → flat_map f (take (i + 1) hs) ≡ flat_map f (take i hs) ++ f (slice_index_or hs i 0)
flat-next f hs i room =
    let next : i + 1 ≡ suc i = omega arith in
    ap (λ n. flat_map f (take n hs)) next ∙ flat-one f hs i room

pub flat-split : {A : Type 0} (f : ℕ → List A) (hs : List ℕ) (i : ℕ) → i < length hs
    → flat_map f hs ≡ flat_map f (take i hs) ++ (f (slice_index_or hs i 0) ++ flat_map f (drop (suc i) hs))
flat-split f [] i room = absurd (omega (arith, room))
flat-split f (h ∷ hs) zero room = refl
flat-split f (h ∷ hs) (suc i) room =
    ap (λ l. f h ++ l) (flat-split f hs i (omega (arith, room)))
    ∙ sym (append_assoc (f h) (flat_map f (take i hs)) (f (slice_index_or hs i 0) ++ flat_map f (drop (suc i) hs)))
