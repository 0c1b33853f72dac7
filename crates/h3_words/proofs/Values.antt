-- What a parse found for the options of a command is the command's values.
use Rattle.std.proofs.Common.{◌≡◌, ◌⊎◌, ◌∙◌, ◌||◌, Bool, ℤ, true, false, List, [], ◌∷◌, Option, Some, None, is_some, refl, sym, ap, subst, inl, inr, true≢false}
use Rattle.std.specs.Prelude.{All, MatchBool, option_map, unwrap_or}
use Rattle.std.specs.List.{list_any}
use Rattle.std.proofs.lemmas.List.Elements.{All-nil, All-cons}
use Rattle.std.specs.Str.{bytes_eq}
use Rattle.clap.specs.Words.{Accepts, Text, first_value}
use Rattle.clap.specs.declared.builder.value_parser.ValueParser.TheVariants.{Signed, String}
use Rattle.clap.specs.declared.parser.matches.Found.{Found}
use Rattle.h3_words.proofs.Uses.{IsListed, contains}
use Rattle.h3_words.specs.Options.{IsInRange, IsWithin, id_of, is_required, number_from, number_up_to, parser_done}
use Rattle.h3_words.specs.Commands.{Index, Number, Value, has_option, option_of, options_of, values_of_command}
use Rattle.h3_words.specs.Values.{AreFound, IsAccepted, IsFound, HasPath, HasValues, IsIndex, IsNumber, IsValue, AreRead, IsRead}
use Rattle.h3_words.specs.declared.options.CommandOption.{CommandOption}
use Rattle.h3_requests.specs.declared.command.Command.{Command}
use Rattle.h3_words.proofs.OptionRules.{Differs, differ}

is_in : (o : CommandOption) (os : List CommandOption) → list_any (λ x. bytes_eq (id_of x) (id_of o)) os ≡ true
    → IsListed o os
is_in o [] e = absurd (true≢false (sym e))
is_in o (x ∷ os) e = go (differ x o) (is_in o os) e
  where
    go : (x ≡ o) ⊎ Differs x o → (list_any (λ y. bytes_eq (id_of y) (id_of o)) os ≡ true → IsListed o os)
        → list_any (λ y. bytes_eq (id_of y) (id_of o)) (x ∷ os) ≡ true → IsListed o (x ∷ os)
    go (inl same) later e2 = inl same
    go (inr d) later e2 = inr (later (sym (ap (λ b. b || list_any (λ y. bytes_eq (id_of y) (id_of o)) os) d.0) ∙ e2))

-- a text that the option's parser accepts is in the option's range
pub in_range : (o : CommandOption) (t : Text) → Accepts false (parser_done o) t → IsInRange o t
in_range o t accepted = go (number_from o) (number_up_to o) accepted
  where
    go : (least : ℤ) (most : Option ℤ) → Accepts false (unwrap_or (option_map (Signed least) most) String) t
        → IsWithin least most t
    go least None accepted2 = tt
    go least (Some most) accepted2 = accepted2

-- the option has a text, which a parse found and its parser accepted
abbrev HasText : (CommandOption → Option Text) → Found → CommandOption → Type 0
HasText text f o = (v : Text) × (text o ≡ Some v) × (first_value f (id_of o) ≡ Some v) × Accepts false (parser_done o) v

has_text : (k : Command) (text : CommandOption → Option Text) (f : Found) (o : CommandOption) → IsFound k text f o
    → is_some (text o) ≡ true → HasText text f o
has_text k text f o found some = go (text o) refl some found.same found.accepted
  where
    go : (s : Option Text) → text o ≡ s → is_some s ≡ true → first_value f (id_of o) ≡ s → IsAccepted o s
        → HasText text f o
    go None e bad same accepted = absurd (true≢false (sym bad))
    go (Some v) e fine same accepted = (v, e, same, accepted)

module _ (text : CommandOption → Option Text) (f : Found) where
  -- a value that is read for an option that has a text is what the text parses as
  is_value : (v : Value) → HasText text f (option_of v) → IsRead f v → IsValue text v
  is_value (Index o index) at read = subst (λ t. IsIndex t index) (sym at.1) (read at.0 at.2)
  is_value (Number o n) at read = subst (λ t. IsNumber o t n) (sym at.1) (in_range o at.0 at.3, read at.0 at.2 at.3)

  are_values : (self : Command) → AreFound self text f → (vs : List Value) → AreRead self f vs → All (IsValue text) vs
  are_values self found [] read = All-nil (IsValue text)
  are_values self found (v ∷ vs) read =
      let o = option_of v in
      let at =
      has_text self text f o (found o)
      ((found o).wanted (contains (options_of self) o (is_in o (options_of self) read.0)) read.1) in
      All-cons (IsValue text) v vs (is_value v at read.2) (are_values self found vs read.3)

-- a command whose values are read for its options has what their texts parse as
pub has_values : (self : Command) (f : Found) (c : Command) → AreRead self f (values_of_command c)
    → (text : CommandOption → Option Text) → AreFound self text f → HasValues text c
has_values self f c read text found = are_values text f self found (values_of_command c) read

-- the path of an option that the command has is what is found for it
pub path_found : (self : Command) (o : CommandOption) (f : Found) (path : Option Text) → has_option self o ≡ true
    → first_value f (id_of o) ≡ path
    → (text : CommandOption → Option Text) → AreFound self text f → HasPath text self o path
path_found self o f path has found text are_found =
    subst (λ b. MatchBool b (path ≡ text o) (path ≡ None)) (sym has) (sym found ∙ (are_found o).same)

-- a path is the text of an option that the command has
pub named_by_path : (b : Bool) (t : Option Text) (path : Text) → MatchBool b (Some path ≡ t) (Some path ≡ None)
    → (b ≡ true) × (t ≡ Some path)
named_by_path true t path is = (refl, sym is)
named_by_path false t path is = cc

-- where there is no path the command does not have the option, which it would require
pub no_path : (k : Command) (o : CommandOption) (text : CommandOption → Option Text) (f : Found) (path : Option Text)
    → is_required o ≡ true → AreFound k text f
    → path ≡ None → HasPath text k o path → has_option k o ≡ false
no_path k o text f path needed found none has = go (has_option k o) refl has
  where
    go : (b : Bool) → has_option k o ≡ b → MatchBool b (path ≡ text o) (path ≡ None) → b ≡ false
    go true in_it is =
        absurd (true≢false (sym ((found o).wanted (contains (options_of k) o (is_in o (options_of k) in_it)) needed)
        ∙ ap is_some (sym is ∙ none)))
    go false in_it is = refl
