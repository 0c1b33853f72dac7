-- The rules and the rows of one command's options.
use Rattle.std.proofs.Common.{◌≡◌, ◌⊎◌, ◌∙◌, ◌&&◌, ◌||◌, ◌==◌, ◌++◌, ℕ, Bool, cond, true, false, not, refl, sym, ap, subst, arith, List, [], ◌∷◌, map, Option, Some, None, inl, inr, true≢false, codes}
use Rattle.std.specs.Prelude.{find}
use Rattle.std.specs.List.{list_all}
use Rattle.std.specs.Option.{option_map_or, option_or}
use Rattle.std.specs.Str.{bytes_eq}
use Rattle.std.proofs.lemmas.Slice.Eq.{bytes_eq-Decides}
use Rattle.clap.specs.Walk.{Row, Rule, Text, arg_by_id, arg_by_index, at_row, takes_values, has_row, more_values, reading_by, used, with_values, without}
use Rattle.clap.specs.Simple.{filled, help_rule, with_index}
use Rattle.clap.specs.Kinds.{Kinds, or_else}
use Rattle.clap.specs.declared.error.kind.ErrorKind.{ErrorKind}
use Rattle.clap.specs.declared.parser.matches.ValueSource.TheVariants.{CommandLine}
use Rattle.h3_words.specs.Options.{parser_done, id_of, is_flag, long_name, missing_for, rule_for, short_name}
use Rattle.h3_words.specs.declared.options.CommandOption.{CommandOption}
use Rattle.h3_words.specs.declared.options.CommandOption.TheVariants.{Cell}
use Rattle.h3_words.specs.declared.options.TheConstants.{OPTIONS}

-- ---- small facts

pub or_nil : (a b : Kinds) → or_else a b ≡ [] → (a ≡ []) × (b ≡ [])
or_nil [] b e = (refl, e)
or_nil (k ∷ ks) b e = cc

pub cons_nil : (k : ErrorKind) (ks : Kinds) → k ∷ ks ≡ [] → ⊥
cons_nil k ks e = cc

pub or_false : (b : Bool) → (b || false) ≡ b
or_false true = refl
or_false false = refl

-- ---- the options differ

-- both have this long name
abbrev same_long : Option Text → Option Text → Bool
same_long (Some a) (Some b) = bytes_eq a b
same_long _ _ = false

-- both have this short name
abbrev same_short : Option ℕ → Option ℕ → Bool
same_short (Some a) (Some b) = a == b
same_short _ _ = false

-- the options have no id and no name in common
abbrev pub Differs : CommandOption → CommandOption → Type 0
Differs q o =
    (bytes_eq (id_of q) (id_of o) ≡ false) × (same_long (long_name o) (long_name q) ≡ false)
    × (same_short (short_name o) (short_name q) ≡ false)

-- they are one option, or differ
abbrev pub Which : CommandOption → CommandOption → Type 0
Which q o = (q ≡ o) ⊎ Differs q o

-- all options
abbrev every_option : List CommandOption
every_option = OPTIONS.now

-- what is tested of one option is so at each: the second clause of such a lemma is checked at each other option
option_found : (o : CommandOption) → find (λ x. bytes_eq (id_of x) (id_of o)) every_option ≡ Some o
option_found Cell = refl
option_found o = refl

-- two options of one id, or of names that differ
abbrev differ_test : CommandOption → CommandOption → Bool
differ_test q o =
    bytes_eq (id_of q) (id_of o)
    || (not (same_long (long_name o) (long_name q)) && not (same_short (short_name o) (short_name q)))

all_differ : list_all (λ q. list_all (differ_test q) every_option) every_option ≡ true
all_differ = refl

and_parts : (a b : Bool) → (a && b) ≡ true → (a ≡ true) × (b ≡ true)
and_parts true b e = (refl, e)
and_parts false b e = absurd (true≢false (sym e))

not_parts : (a : Bool) → not a ≡ true → a ≡ false
not_parts true e = absurd (true≢false (sym e))
not_parts false e = refl

some_same : (q o : CommandOption) → Some q ≡ Some o → q ≡ o
some_same q o e = cc

found_passes : (f p : CommandOption → Bool) (os : List CommandOption) (o : CommandOption) → list_all f os ≡ true
    → find p os ≡ Some o → f o ≡ true
found_passes f p [] o all e = cc
found_passes f p (x ∷ os) o all e = go (p x) (found_passes f p os o) (and_parts _ _ all) e
  where
    go : (t : Bool) → (list_all f os ≡ true → find p os ≡ Some o → f o ≡ true) → (f x ≡ true) × (list_all f os ≡ true)
        → cond t (Some x) (find p os) ≡ Some o → f o ≡ true
    go true later two e2 = subst (λ y. f y ≡ true) (some_same x o e2) two.0
    go false later two e2 = later two.1 e2

pub differ : (q o : CommandOption) → (q ≡ o) ⊎ Differs q o
differ q o = go (bytes_eq (id_of q) (id_of o)) refl
    (found_passes (differ_test q) (λ x. bytes_eq (id_of x) (id_of o)) every_option o
    (found_passes (λ x. list_all (differ_test x) every_option) (λ x. bytes_eq (id_of x) (id_of q)) every_option q
    all_differ (option_found q)) (option_found o))
  where
    go : (t : Bool) → bytes_eq (id_of q) (id_of o) ≡ t
        → (t || (not (same_long (long_name o) (long_name q)) && not (same_short (short_name o) (short_name q)))) ≡ true
        → (q ≡ o) ⊎ Differs q o
    go true e test = inl (some_same q o
        (sym (option_found q) ∙ ap (λ t. find (λ x. bytes_eq (id_of x) t) every_option)
        ((bytes_eq-Decides (id_of q) (id_of o)).0 e) ∙ option_found o))
    go false e test = let two = and_parts _ _ test in inr (e, not_parts _ two.0, not_parts _ two.1)

pub longs_differ : (x y : Option Text) (name : Text) → same_long x y ≡ false
    → option_map_or (λ s. bytes_eq s name) y false ≡ true
    → option_map_or (λ s. bytes_eq s name) x false ≡ false
longs_differ None y name d e = refl
longs_differ (Some a) None name d e = absurd (true≢false (sym e))
longs_differ (Some a) (Some b) name d e = ap (bytes_eq a) (sym ((bytes_eq-Decides b name).0 e)) ∙ d

pub shorts_differ : (x y : Option ℕ) (c : ℕ) → same_short x y ≡ false → option_map_or (λ s. s == c) y false ≡ true
    → option_map_or (λ s. s == c) x false ≡ false
shorts_differ None y c d e = refl
shorts_differ (Some a) None c d e = absurd (true≢false (sym e))
shorts_differ (Some a) (Some b) c d e = let same : b ≡ c = grind arith in ap (λ x. a == x) (sym same) ∙ d

pub bytes_same : (t : Text) → bytes_eq t t ≡ true
bytes_same t = (bytes_eq-Decides t t).1 refl

-- ---- the rules of a built command

-- how many values `clap` takes after an option: none after a flag
abbrev pub values_after : Bool → ℕ
values_after true = 0
values_after false = 1

-- the option as `clap` completes it, by whether it is a flag
abbrev pub rule_as : Bool → CommandOption → Rule
rule_as flag o = record (rule_for o) {
  parser = Some (parser_done o);
  range = Some (record { start_inclusive = values_after flag; end_inclusive = values_after flag });
  missing = missing_for flag;
}

-- the option as `clap` completes it
abbrev pub done_rule : CommandOption → Rule
done_rule o = rule_as (is_flag o) o

-- an option that takes a value is no flag, and a flag takes none
pub flag_of : (q : CommandOption) (t : Bool) → takes_values (done_rule q) ≡ t → is_flag q ≡ not t
flag_of q t e = go (is_flag q) e
  where
    go : (b : Bool) → takes_values (rule_as b q) ≡ t → b ≡ not t
    go true same = ap not same
    go false same = ap not same

pub takes_value : (q : CommandOption) → is_flag q ≡ false → takes_values (done_rule q) ≡ true
takes_value q takes = ap (λ b. takes_values (rule_as b q)) takes

pub takes_no_value : (q : CommandOption) → is_flag q ≡ true → takes_values (done_rule q) ≡ false
takes_no_value q flag = ap (λ b. takes_values (rule_as b q)) flag

-- what `clap` takes after a use of the option which has this text
pub data Written (q : CommandOption) : Text → List Text → Type 0 where
  by_value : (v : Text) → is_flag q ≡ false → Written q v (v ∷ [])
  by_flag : is_flag q ≡ true → Written q (codes "true") []

pub written_used : (q : CommandOption) (v : Text) (vs : List Text) → Written q v vs → (rs : List Row)
    → used (done_rule q) vs rs ≡ used (done_rule q) (v ∷ []) rs
written_used q _ _ (by_value v takes) rs = refl
written_used q _ _ (by_flag flag) rs = ap (λ b. used (rule_as b q) [] rs) flag

-- `--help` as `clap` completes it
abbrev pub help_done : Rule
help_done = with_index 1 (filled help_rule)

-- the options of a command as `clap` completes them
abbrev pub done_rules : List CommandOption → List Rule
done_rules os = map done_rule os ++ help_done ∷ []

-- what a search among them finds
pub data FoundIn (p : Rule → Bool) (c : List Rule) : Option Rule → Type 0 where
  at_option : (q : CommandOption) → p (done_rule q) ≡ true → arg_by_id c (id_of q) ≡ Some (done_rule q)
      → FoundIn p c (Some (done_rule q))
  at_help : FoundIn p c (Some help_done)
  nowhere : FoundIn p c None

id_later : (x q : CommandOption) (c : List Rule) → Which x q → arg_by_id c (id_of q) ≡ Some (done_rule q)
    → arg_by_id (done_rule x ∷ c) (id_of q) ≡ Some (done_rule q)
id_later x q c (inl same) by_id =
    ap (λ y. cond (bytes_eq (id_of y) (id_of q)) (Some (done_rule y)) (arg_by_id c (id_of q))) same
    ∙ ap (λ b. cond b (Some (done_rule q)) (arg_by_id c (id_of q))) (bytes_same (id_of q))
id_later x q c (inr d) by_id = ap (λ b. cond b (Some (done_rule x)) (arg_by_id c (id_of q))) d.0 ∙ by_id

found_later : (p : Rule → Bool) (x : CommandOption) (c : List Rule) (r : Option Rule) → FoundIn p c r
    → FoundIn p (done_rule x ∷ c) r
found_later p x c r (at_option q hit by_id) = at_option q hit (id_later x q c (differ x q) by_id)
found_later p x c r at_help = at_help
found_later p x c r nowhere = nowhere

found_help : (p : Rule → Bool) (b : Bool) → FoundIn p (help_done ∷ []) (cond b (Some help_done) None)
found_help p true = at_help
found_help p false = nowhere

found_step : (p : Rule → Bool) (x : CommandOption) (c : List Rule) (r : Option Rule) → FoundIn p c r → (b : Bool)
    → p (done_rule x) ≡ b
    → FoundIn p (done_rule x ∷ c) (cond b (Some (done_rule x)) r)
found_step p x c r later true e =
    at_option x e (ap (λ b. cond b (Some (done_rule x)) (arg_by_id c (id_of x))) (bytes_same (id_of x)))
found_step p x c r later false e = found_later p x c r later

pub found : (p : Rule → Bool) (os : List CommandOption) → FoundIn p (done_rules os) (find p (done_rules os))
found p [] = found_help p (p help_done)
found p (x ∷ os) = found_step p x (done_rules os) (find p (done_rules os)) (found p os) (p (done_rule x)) refl

pub no_position : (i : ℕ) (os : List CommandOption) → arg_by_index (done_rules os) i ≡ None
no_position i [] = refl
no_position i (x ∷ os) = no_position i os

-- ---- rows

-- the entry of the option with this value
abbrev pub row_of_option : CommandOption → Text → Row
row_of_option o v =
    record {
      id = id_of o;
      values = v ∷ [];
      count = None;
      source = Some CommandLine;
      reading = reading_by (done_rule o);
    }

pub added : (id : Text) (change : Row → List Row) (missing : List Row) (rs : List Row) → has_row id rs ≡ false
    → at_row id change missing rs ≡ rs ++ missing
added id change missing [] e = refl
added id change missing (r ∷ rs) e = go (at_row id change missing rs) (added id change missing rs) (bytes_eq r.id id) e
  where
    go : (later : List Row) → (has_row id rs ≡ false → later ≡ rs ++ missing) → (b : Bool)
        → (b || has_row id rs) ≡ false → cond b (change r ++ rs) (r ∷ later) ≡ r ∷ (rs ++ missing)
    go later h true e2 = absurd (true≢false e2)
    go later h false e2 = ap (λ t. r ∷ t) (h e2)

pub append_none : {X : Type 0} (xs : List X) → xs ++ [] ≡ xs
append_none [] = refl
append_none (x ∷ xs) = ap (λ t. x ∷ t) (append_none xs)

pub used_fresh : (q : CommandOption) (v : Text) (rs : List Row) → has_row (id_of q) rs ≡ false
    → used (done_rule q) (v ∷ []) rs ≡ rs ++ row_of_option q v ∷ []
used_fresh q v rs e =
    let gone : without (id_of q) rs ≡ rs = added (id_of q) (λ _. []) [] rs e ∙ append_none rs in
    ap (with_values (id_of q) (reading_by (done_rule q)) CommandLine (v ∷ [])) gone
    ∙ added (id_of q) (more_values CommandLine (v ∷ [])) (row_of_option q v ∷ []) rs e

pub find_added : {X : Type 0} (p : X → Bool) (xs : List X) (x : X)
    → find p (xs ++ x ∷ []) ≡ option_or (find p xs) (cond (p x) (Some x) None)
find_added p [] x = refl
find_added {X = X} p (y ∷ xs) x = go (find p (xs ++ x ∷ [])) (find_added p xs x) (p y)
  where
    go : (later : Option X) → later ≡ option_or (find p xs) (cond (p x) (Some x) None) → (b : Bool)
        → cond b (Some y) later ≡ option_or (cond b (Some y) (find p xs)) (cond (p x) (Some x) None)
    go later h true = refl
    go later h false = h

pub none_found : (id : Text) (rs : List Row) → has_row id rs ≡ false → find (λ r. bytes_eq r.id id) rs ≡ None
none_found id [] e = refl
none_found id (r ∷ rs) e = go (find (λ x. bytes_eq x.id id) rs) (none_found id rs) (bytes_eq r.id id) e
  where
    go : (later : Option Row) → (has_row id rs ≡ false → later ≡ None) → (b : Bool) → (b || has_row id rs) ≡ false
        → cond b (Some r) later ≡ None
    go later h true e2 = absurd (true≢false e2)
    go later h false e2 = h e2
