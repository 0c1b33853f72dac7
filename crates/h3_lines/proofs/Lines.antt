-- What a loop over items has written and holds back, of the answer that the items make.
use Rattle.std.proofs.Common.{◌≡◌, ℕ, Bool, List, [], ◌∷◌, ◌++◌, Option, Result, Ok, Err, IsOk, sym, ap, ◌∙◌, refl, subst, append_assoc}
use Rattle.std.proofs.KnownBytes.{Appends-nil, Appends-trans}
use Rattle.std.specs.Io.KnownBytes.{Appends}
use Rattle.h3_index.specs.declared.error.H3Error.{H3Error}
use Rattle.h3_lines.specs.Answer.{Answer, before, before_items, whole_items}
use Rattle.h3_lines.specs.Answering.{Moves}
use Rattle.h3_lines.specs.Write.{Writes, sink_use}
use Rattle.h3_lines.specs.declared.run_error.RunError.{RunError}
use Rattle.h3_lines.specs.EachLaws.{before_before}
use Rattle.h3_lines.specs.EndingLaws.{writes_after}

-- ---- the answer so far

module _ {I : Type 0} (answer : List I → Answer) where
  -- the answer to these items and more begins with these bytes, and then comes the answer to those that are more
  abbrev pub SoFar : List I → List ℕ → Type 0
  SoFar items bytes = (more : List I) → answer (items ++ more) ≡ before bytes (answer more)

  -- a stream took bytes, and others are held back; together they are those of the items so far
  pub record Held (items : List I) (old new : Option (List ℕ)) (held : List ℕ) : Type 0 where
    pub done : List ℕ
    pub grown : Appends old new done
    pub so_far : SoFar items (done ++ held)

  pub held_none : (out : Option (List ℕ)) → Held [] out out []
  held_none out = record { done = []; grown = Appends-nil out; so_far = λ more. refl }

  module _ {S : Type 0} (taken : S → Option (List ℕ)) (failed : S → Bool) where
    -- the text of an item more, put after what is left of the bytes held back
    pub held_more : {items : List I} {old : Option (List ℕ)} {mid new : S} {held rest : List ℕ}
        → Held items old (taken mid) held → (item : I) (text held' : List ℕ)
        → ((more : List I) → answer (item ∷ more) ≡ before text (answer more)) → Moves taken failed held rest mid new
        → held' ≡ rest ++ text → Held (items ++ item ∷ []) old (taken new) held'
    held_more {items} {old} {mid} {new} {held} {rest} h item text held' begins p is = record {
      done = h.done ++ p.part;
      grown = Appends-trans old (taken mid) (taken new) h.done p.part h.grown p.grown;
      so_far = λ more. (
          let bytes : (h.done ++ held) ++ text ≡ (h.done ++ p.part) ++ held' =
          ap (λ l. l ++ text) (ap (λ l. h.done ++ l) p.split ∙ sym (append_assoc h.done p.part rest))
          ∙ append_assoc (h.done ++ p.part) rest text ∙ ap (λ l. (h.done ++ p.part) ++ l) (sym is) in
          ap answer (append_assoc items (item ∷ []) more) ∙ h.so_far (item ∷ more)
          ∙ ap (before (h.done ++ held)) (begins more) ∙ before_before (h.done ++ held) text (answer more)
          ∙ ap (λ l. before l (answer more)) bytes);
    }

    -- the answer to all items is written, where what is held back and the answer to the others are
    pub held_ends : (first mid last : S) {items : List I} {held : List ℕ} → Held items (taken first) (taken mid) held
        → (all rest : List I) → all ≡ items ++ rest → failed mid ≡ failed first → (ending : Result (Unit {0}) RunError)
        → Writes (before held (answer rest)) ending (sink_use taken failed mid last)
        → Writes (answer all) ending (sink_use taken failed first last)
    held_ends first mid last {items} {held} h all rest split same ending writes =
        let is : answer all ≡ before h.done (before held (answer rest)) =
        ap answer split ∙ h.so_far rest ∙ sym (before_before h.done held (answer rest)) in
        rw is (writes_after taken failed first mid last (before held (answer rest)) h.done ending h.grown same writes)

-- ---- items without an error

-- after these items others have an error where all of them have, and the same
pub record Passed {A : Type 0} (items : List (Result A H3Error)) : Type 0 where
  pub good : (more : List (Result A H3Error)) → IsOk (whole_items more) → IsOk (whole_items (items ++ more))
  pub refused : (more : List (Result A H3Error)) (e : H3Error) → whole_items more ≡ Err e
      → whole_items (items ++ more) ≡ Err e

pub passed_none : {A : Type 0} → Passed {A = A} []
passed_none = record { good = λ more ok. ok; refused = λ more e is. is }

good_before : {A : Type 0} (item : A) (items : Result (List A) H3Error) → IsOk items → IsOk (before_items item items)
good_before item (Ok items) ok = refl
good_before item (Err e) never = absurd (cc never)

refused_before : {A : Type 0} (item : A) (items : Result (List A) H3Error) (e : H3Error) → items ≡ Err e
    → before_items item items ≡ Err e
refused_before item items e is = ap (before_items item) is

pub passed_more : {A : Type 0} {items : List (Result A H3Error)} → Passed items → (item : A)
    → Passed (items ++ Ok item ∷ [])
passed_more {items = items} p item = record {
  good =
      λ more ok. subst (λ l. IsOk (whole_items l)) (sym (append_assoc items (Ok item ∷ []) more))
      (p.good (Ok item ∷ more) (good_before item (whole_items more) ok));
  refused =
      λ more e is. ap whole_items (append_assoc items (Ok item ∷ []) more)
      ∙ p.refused (Ok item ∷ more) e (refused_before item (whole_items more) e is);
}
