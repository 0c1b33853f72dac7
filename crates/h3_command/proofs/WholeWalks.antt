-- Walks of which no step is refused.
use Rattle.std.specs.Prelude.{unsigned_abs}
use Rattle.std.proofs.Common.{◌≡◌, ℕ, ℤ, pos, List, [], ◌∷◌, map, Option, None, Some, Result, Ok, Err, IsOk, sym, ap, ◌∙◌, refl}
use Rattle.h3_index.specs.Cell.{Address}
use Rattle.h3_index.specs.declared.error.H3Error.{H3Error}
use Rattle.h3_lines.specs.Answer.{before_items, printed, refused, whole_items, written}
use Rattle.h3_functions.specs.Hierarchy.{unless}
use Rattle.h3_functions.specs.Inspection.{for_value}
use Rattle.h3_functions.specs.Walks.{without_ring}
use Rattle.h3_command.specs.LongAnswers.{whole_walk}
use Rattle.h3_command.specs.Long.{good}

-- a walk that begins
pub walk_begun : {A : Type 0} (error : ℤ → Option H3Error) (items : ℤ → List (Result A H3Error)) (k read : ℤ)
    (left : List (Result A H3Error))
    → read ≡ k → None ≡ error read → left ≡ items read → whole_walk (unless (error k) (items k)) ≡ whole_items left
walk_begun error items k read left same fits is =
    ap (λ e. whole_walk (unless e (items k))) (ap error (sym same) ∙ sym fits)
    ∙ ap (λ n. whole_items (items n)) (sym same) ∙ ap whole_items (sym is)

-- a value that no error stands in place of
pub unless_fits : {A : Type 0} (error : ℤ → Option H3Error) (value : ℕ → A) (k read : ℤ) (n : ℕ) → read ≡ k
    → None ≡ error read → pos n ≡ read → unless (error k) (value (unsigned_abs k)) ≡ Ok (value n)
unless_fits error value k read n same fits is =
    ap (λ e. unless e (value (unsigned_abs k))) (ap error (sym same) ∙ sym fits)
    ∙ ap (λ z. Ok (value (unsigned_abs z))) (sym same) ∙ ap (λ z. Ok (value (unsigned_abs z))) (sym is)

good_before : {A : Type 0} (item : A) (items : List (Result A H3Error)) (r : Result (List A) H3Error)
    → (IsOk r → r ≡ Ok (good items)) → IsOk (before_items item r) → before_items item r ≡ Ok (item ∷ good items)
good_before item items (Ok all) is ok = ap (before_items item) (is refl)
good_before item items (Err e) is never = absurd (cc never)

-- its items, where none is an error
pub good_items : {A : Type 0} (items : List (Result A H3Error)) → IsOk (whole_items items)
    → whole_items items ≡ Ok (good items)
good_items [] ok = refl
good_items (Ok item ∷ items) ok = good_before item items (whole_items items) (good_items items) ok
good_items (Err e ∷ items) never = absurd (cc never)

-- ---- without rings

pub dropped : Result (List (Address × ℕ)) H3Error → Result (List Address) H3Error
dropped (Ok items) = Ok (map (λ item. item.0) items)
dropped (Err e) = Err e

dropped_before : (item : Address × ℕ) (r : Result (List (Address × ℕ)) H3Error)
    → before_items item.0 (dropped r) ≡ dropped (before_items item r)
unfolding dropped
dropped_before item (Ok items) = refl
dropped_before item (Err e) = refl

rings_dropped : (items : List (Result (Address × ℕ) H3Error))
    → whole_items (map without_ring items) ≡ dropped (whole_items items)
unfolding dropped
rings_dropped [] = refl
rings_dropped (Ok item ∷ items) =
    ap (before_items item.0) (rings_dropped items) ∙ dropped_before item (whole_items items)
rings_dropped (Err e ∷ items) = refl

walk_dropped : (error : Option H3Error) (items : List (Result (Address × ℕ) H3Error))
    → whole_walk (unless error (map without_ring items)) ≡ dropped (whole_walk (unless error items))
unfolding dropped
walk_dropped None items = rings_dropped items
walk_dropped (Some e) items = refl

pub dropped_good : (error : Option H3Error) (items left : List (Result (Address × ℕ) H3Error))
    → whole_walk (unless error items) ≡ whole_items left → IsOk (whole_items left)
    → whole_walk (unless error (map without_ring items)) ≡ Ok (map (λ item. item.0) (good left))
unfolding dropped
dropped_good error items left is ok = walk_dropped error items ∙ ap dropped (is ∙ good_items left ok)

pub dropped_refused : (error : Option H3Error) (items : List (Result (Address × ℕ) H3Error)) (e : H3Error)
    → whole_walk (unless error items) ≡ Err e → whole_walk (unless error (map without_ring items)) ≡ Err e
unfolding dropped
dropped_refused error items e is = walk_dropped error items ∙ ap dropped is

-- ---- the answer to a cell

pub printed_items : {A B : Type 0} (text : List B → List ℕ) (walk : A → Result (List B) H3Error)
    (cell : Result A H3Error) (c : A) (items : List B)
    → cell ≡ Ok c → walk c ≡ Ok items → printed text (for_value walk cell) ≡ written (text items)
printed_items text walk cell c items is all = ap (λ r. printed text (for_value walk r)) is ∙ ap (printed text) all

pub printed_refused : {A B : Type 0} (text : List B → List ℕ) (walk : A → Result (List B) H3Error)
    (cell : Result A H3Error) (c : A) (e : H3Error)
    → cell ≡ Ok c → walk c ≡ Err e → printed text (for_value walk cell) ≡ refused e
printed_refused text walk cell c e is error = ap (λ r. printed text (for_value walk r)) is ∙ ap (printed text) error
