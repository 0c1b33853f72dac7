-- What options that agree name: a separator, and fields beside it.
use Rattle.std.proofs.Common.{◌≡◌, ◌∙◌, refl, subst, sym, Bool, true, false, not, ◌&&◌, ◌||◌, ℕ, Option, None, Some, is_some}
use Rattle.std.specs.Prelude.{unwrap_or}
use Rattle.std.specs.Option.{option_map_or}
use Rattle.clap.specs.Words.{Text}
use Rattle.h3_words.specs.Rows.{Texts, cuts_errors, cuts_rows, cuts_sums, fits, has, has_company, has_names, is_one_field, names_fields_once, names_fit, names_have_company, needs, rows_agree, seconds_have_company, separator_of}
use Rattle.h3_words.specs.declared.options.CommandOption.TheVariants.{As, NoZone, ZoneColumn, ZoneField, ZoneName, ZoneNameField, Overlapping}

first : (a b : Bool) → (a && b) ≡ true → a ≡ true
first true b is = refl
first false b bad = bad

second : (a b : Bool) → (a && b) ≡ true → b ≡ true
second true b is = is
second false b bad = cc

-- where options agree, the options of names and of second fields have what they go with, and what they name fits
names_agree : (text : Texts) → rows_agree text ≡ true
    → (names_have_company text && (seconds_have_company text && names_fit text)) ≡ true
names_agree text agree =
    let later = names_have_company text && (seconds_have_company text && names_fit text) in
    let cut : (cuts_rows text && (has_company text && later)) ≡ true =
    second (names_fields_once text) (cuts_rows text && (has_company text && later)) agree in
    second (has_company text) later (second (cuts_rows text) (has_company text && later) cut)

pub named_fit : (text : Texts) → rows_agree text ≡ true → names_fit text ≡ true
named_fit text agree =
    let last = seconds_have_company text && names_fit text in
    second (seconds_have_company text) (names_fit text) (second (names_have_company text) last (names_agree text agree))

pub names_kept : (text : Texts) → rows_agree text ≡ true → names_have_company text ≡ true
names_kept text agree =
    first (names_have_company text) (seconds_have_company text && names_fit text) (names_agree text agree)

-- a value that passes a test is there
is_there : (f : ℕ → Bool) (s : Option ℕ) (other : ℕ) → option_map_or f s false ≡ true → Some (unwrap_or s other) ≡ s
is_there f None other bad = cc
is_there f (Some b) other passes = refl

-- where options agree, there is a separator
pub agreed_separator : (text : Texts) (s : Option ℕ) → s ≡ separator_of text → rows_agree text ≡ true
    → Some (unwrap_or s 9) ≡ separator_of text
agreed_separator text s same agree =
    is_there (λ c. fits text c) s 9
    (subst (λ s. option_map_or (λ c. fits text c) s false ≡ true) (sym same) (named_fit text agree))
    ∙ same

-- where options agree, the text of `--none` is one field beside the separator
pub none_fits : (text : Texts) (s : ℕ) → Some s ≡ separator_of text → rows_agree text ≡ true
    → is_one_field text NoZone s ≡ true
none_fits text s same agree =
    let all : fits text s ≡ true =
    subst (λ s. option_map_or (λ c. fits text c) s false ≡ true) (sym same) (named_fit text agree) in
    let both = is_one_field text As s && is_one_field text NoZone s in
    let uncut : (not (cuts_sums text s) && both) ≡ true =
    second (not (cuts_errors text s)) (not (cuts_sums text s) && both) all in
    second (is_one_field text As s) (is_one_field text NoZone s) (second (not (cuts_sums text s)) both uncut)

-- what needs an option that is not given is not given
lacks : (a b : Option Text) → needs (is_some a) (is_some b) ≡ true → b ≡ None → a ≡ None
lacks None b kept none = refl
lacks (Some t) None kept none = cc
lacks (Some t) (Some u) kept none = cc

-- where options agree, zones without a field of cells have none of names
pub names_need_cells : (text : Texts) → rows_agree text ≡ true → text ZoneField ≡ None → text ZoneColumn ≡ None
    → (text ZoneNameField ≡ None) × (text ZoneName ≡ None)
names_need_cells text agree field column =
    let by_name = needs (has text ZoneName) (has text ZoneColumn) in
    let by_number = needs (has text ZoneNameField) (has text ZoneField) in
    let none = needs (has text NoZone || has text Overlapping) (has_names text) in
    let kept : (by_name && (by_number && none)) ≡ true = names_kept text agree in (
      lacks (text ZoneNameField) (text ZoneField)
          (first by_number none (second by_name (by_number && none) kept)) field,
      lacks (text ZoneName) (text ZoneColumn) (first by_name (by_number && none) kept) column,
    )
