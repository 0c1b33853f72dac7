-- Functions that return an iterator.
use Rattle.std.proofs.Common.{◌≡◌, List, Option, Result, Ok, Err, subst, refl}
use Rattle.std.specs.Prelude.{IfOk}
use Rattle.std.specs.Iterator.{YieldsFirst}
use Rattle.std.specs.Result.{result_err}
use Rattle.std.proofs.lemmas.Iterator.Consumers.{YieldsList-from_first}
use Rattle.h3_index.specs.declared.error.H3Error.{H3Error}
use Rattle.h3_functions.specs.Hierarchy.{unless}
use Rattle.h3_functions.specs.Items.{Lists}

-- an iterator that yields what it has left, or an error
pub lists_first : {S A : Type 0} (rest : S → List A) (items : Result S H3Error) (error : Option H3Error) (all : List A)
    → result_err items ≡ error → IfOk items (λ s. rest s ≡ all)
    → Lists (YieldsFirst rest) items (unless error all)
lists_first rest (Ok s) error all refused left =
    subst (λ e. Lists (YieldsFirst rest) (Ok s) (unless e all)) refused
    (YieldsList-from_first (λ x. x) rest all left).runs
lists_first rest (Err e) error all refused left =
    subst (λ d. Lists (YieldsFirst rest) (Err e) (unless d all)) refused refl
