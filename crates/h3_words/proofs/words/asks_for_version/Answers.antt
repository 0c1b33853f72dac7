use Rattle.std.proofs.Common.{rules, ◌≡◌, ◌∙◌, Bool, true, false, refl, sym, ap, ap₂, List, Option, Some, None, map, string_bytes, codes}
use Rattle.std.specs.Prelude.{◌||◌, slice_get, option_map}
use Rattle.std.specs.Option.{option_map_or}
use Rattle.std.specs.Str.{bytes_eq}
use Rattle.std.proofs.lemmas.Option.{slice_get-map, slice_get_past, slice_get_read}
use Rattle.std.proofs.lemmas.Slice.Eq.{bytes_eq-Decides}
use Rattle.clap.specs.Words.{Text}
use Rattle.h3_words.specs.Version.{asks_version, names_version}
use Rattle.h3_words.proofs.words.asks_for_version.Goals as goal

-- what the second of the words asks for
asked : {A : Type 0} (v : A → Text) (xs : List A) (found : Option A) → slice_get xs 1 ≡ found
    → asks_version (map v xs) ≡ option_map_or (λ x. names_version (v x)) found false
asked v xs None e = ap (λ o. option_map_or names_version o false) (slice_get-map v xs 1 ∙ ap (option_map v) e)
asked v xs (Some x) e = ap (λ o. option_map_or names_version o false) (slice_get-map v xs 1 ∙ ap (option_map v) e)

differs : (word name : Text) → (word ≡ name → ⊥) → bytes_eq word name ≡ false
differs word name other = go (bytes_eq word name) refl
  where
    go : (b : Bool) → bytes_eq word name ≡ b → b ≡ false
    go true e = absurd (other ((bytes_eq-Decides word name).0 e))
    go false e = refl

neither : (word : Text) → (word ≡ codes "-V" → ⊥) → (word ≡ codes "--version" → ⊥) → names_version word ≡ false
neither word short long = ap₂ (λ a b. a || b) (differs word _ short) (differs word _ long)

pub returns-in_default : goal.returns-in_default
returns-in_default c =
    let other = neither c.as_str.result.now c.in_default.not-text c.in_default.not-text-2 in
    let found = slice_get_read c.args.words.now _ 1 c.in-Some.word.now refl (search rules) (search rules) in
    sym (asked string_bytes c.args.words.now (Some c.in-Some.word.now) found
    ∙ ap names_version (sym c.as_str.ensures.value) ∙ other)

pub returns-in-None : goal.returns-in-None
returns-in-None c = sym (asked string_bytes c.args.words.now None (slice_get_past c.args.words.now 1 (search rules)))
