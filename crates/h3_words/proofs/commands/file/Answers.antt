use Rattle.std.proofs.Common.{◌≡◌, Option, Some, None, ap, subst, refl}
use Rattle.std.specs.Prelude.{option_map, string_bytes}
use Rattle.h3_words.proofs.Values.{named_by_path, no_path}
use Rattle.h3_words.specs.Values.{HasPath}
use Rattle.h3_words.specs.declared.options.CommandOption.TheVariants.{Table, Region, Zones}
use Rattle.h3_words.proofs.commands.file.Goals as goal

none : {A : Type 0} (o : Option A) → ((x : A) → o ≡ Some x → ⊥) → o ≡ None
none None other = refl
none (Some x) other = absurd (other x refl)

pub returns-in-Some : goal.returns-in-Some
returns-in-Some c =
    λ text found. named_by_path _ _ _ (subst
    (λ o. HasPath text c.args.command Table (option_map string_bytes o)) c.in-Some.is (c.in_ok-path.ensures text found))

pub returns-in-Some-2 : goal.returns-in-Some-2
returns-in-Some-2 c =
    λ text found. named_by_path _ _ _ (subst
    (λ o. HasPath text c.args.command Region (option_map string_bytes o)) c.in-Some-2.is
    (c.in_ok-path-2.ensures text found))

pub returns-in-Some-3 : goal.returns-in-Some-3
returns-in-Some-3 c =
    λ text found. named_by_path _ _ _ (subst
    (λ o. HasPath text c.args.command Zones (option_map string_bytes o)) c.in-Some-3.is
    (c.in_ok-path-3.ensures text found))

pub returns-in-None : goal.returns-in-None
returns-in-None c = λ text found. (
  no_path _ Table text _ _ refl found (ap (option_map string_bytes) (none _ c.in_default.not-Some))
      (c.in_ok-path.ensures text found),
  no_path _ Region text _ _ refl found (ap (option_map string_bytes) (none _ c.in_default-2.not-Some))
      (c.in_ok-path-2.ensures text found),
  no_path _ Zones text _ _ refl found (ap (option_map string_bytes) c.in-None.is) (c.in_ok-path-3.ensures text found),
)
