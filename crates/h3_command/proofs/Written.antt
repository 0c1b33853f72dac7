-- What a command's writing is where an error stands in place of its answer, or where it has items.
use Rattle.std.proofs.Common.{◌≡◌, ℕ, ℤ, List, [], Option, None, Some, Result, Ok, Err, sym, ap, ◌∙◌, subst, refl, append-nil}
use Rattle.std.specs.Io.KnownBytes.{Appends, Keeps}
use Rattle.std.specs.Iterator.{AlwaysYields, YieldsFirst}
use Rattle.std.proofs.lemmas.Iterator.Consumers.{YieldsList-from_first}
use Rattle.h3_index.specs.declared.error.H3Error.{H3Error}
use Rattle.h3_lines.specs.Answer.{Answer, answer_or_error, refused, walked}
use Rattle.h3_lines.specs.Write.{IsLeft, SinkUse, Writes}
use Rattle.h3_lines.specs.declared.run_error.AnswerError.TheVariants.{Call}
use Rattle.h3_lines.specs.declared.run_error.RunError.{RunError}
use Rattle.h3_lines.specs.declared.run_error.RunError.TheVariants.{Error}
use Rattle.h3_functions.specs.Hierarchy.{unless}
use Rattle.h3_functions.specs.Items.{Lists}

-- nothing was appended
pub nothing : (old new : Option (List ℕ)) → Keeps old new → Appends old new []
nothing None new kept = tt
nothing (Some xs) None kept = absurd kept
nothing (Some xs) (Some ys) kept = kept ∙ sym (append-nil xs)

-- there is an error, and nothing is written
pub writes_refused : (e : H3Error) (out : SinkUse) → IsLeft out → Writes (refused e) (Err (Error (Call e))) out
unfolding Writes
writes_refused e out left = (refl, (nothing _ _ left.0, left.1))

-- ---- a result in place of a value, and of items

pub answered_refused : {A : Type 0} (about : A → Answer) (value : Result A H3Error) (e : H3Error) (out : SinkUse)
    → value ≡ Err e → IsLeft out → Writes (answer_or_error about value) (Err (Error (Call e))) out
answered_refused about value e out is left = rw is (writes_refused e out left)

-- the value is not there for an error
pub answered_unless : {A : Type 0} (about : A → Answer) (error : Option H3Error) (value : A) (e : H3Error)
    (out : SinkUse)
    → Some e ≡ error → IsLeft out → Writes (answer_or_error about (unless error value)) (Err (Error (Call e))) out
answered_unless about error value e out is left =
    answered_refused about (unless error value) e out (ap (λ d. unless d value) (sym is)) left

-- the value is there
pub answered_value : {A : Type 0} (about : A → Answer) (error : Option H3Error) (value given : A)
    (ending : Result (Unit {0}) RunError) (out : SinkUse)
    → given ≡ value → None ≡ error → Writes (about given) ending out
    → Writes (answer_or_error about (unless error value)) ending out
answered_value about error value given ending out same fits writes =
    subst (λ a. Writes a ending out) (ap about same ∙ ap (λ e. answer_or_error about (unless e value)) fits) writes

-- an error stands in place of the items
pub answered_error : {S A : Type 0} (about : List A → Answer) (steps : S → Option A → S → Type 0)
    (given all : Result (List A) H3Error) (e : H3Error) (out : SinkUse)
    → given ≡ all → Lists steps (Err e) given → IsLeft out
    → Writes (answer_or_error about all) (Err (Error (Call e))) out
answered_error about steps (Ok xs) all e out same never left = absurd never
answered_error about steps (Err d) all e out same is left =
    answered_refused about all e out (sym same ∙ ap Err (sym is)) left

-- ---- a walk

-- the walk begins, and what it has left is written
pub walk_written : {S A : Type 0} (line : A → List ℕ) (rest : S → List (Result A H3Error)) (error : ℤ → Option H3Error)
    (items : ℤ → List (Result A H3Error)) {s : S} (k read : ℤ) (ending : Result (Unit {0}) RunError) (out : SinkUse)
    → read ≡ k → None ≡ error read → rest s ≡ items read
    → ((all : List (Result A H3Error)) → AlwaysYields (YieldsFirst rest) (λ x. x) s all
    → Writes (walked line all) ending out)
    → Writes (answer_or_error (walked line) (unless (error k) (items k))) ending out
walk_written line rest error items k read ending out same fits left writes =
    answered_value (walked line) (error k) (items k) (items read) ending out (ap items same) (fits ∙ ap error same)
    (writes (items read) (YieldsList-from_first (λ x. x) rest (items read) left).runs)

-- the walk does not begin
pub walk_unbegun : {A : Type 0} (line : A → List ℕ) (error : ℤ → Option H3Error) (items : List (Result A H3Error))
    (k read : ℤ) (e : H3Error) (out : SinkUse)
    → read ≡ k → Some e ≡ error read → IsLeft out
    → Writes (answer_or_error (walked line) (unless (error k) items)) (Err (Error (Call e))) out
walk_unbegun line error items k read e out same is left =
    answered_unless (walked line) (error k) items e out (is ∙ ap error same) left
