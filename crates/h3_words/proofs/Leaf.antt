-- One command's words: what `clap`'s walk makes of them is what they give.
use Rattle.std.proofs.Common.{nat_lt, ◌≡◌, ◌⊎◌, ◌∙◌, ◌&&◌, ◌||◌, ◌==◌, ℕ, Bool, cond, true, false, not, refl, sym, ap, ap₂, subst, arith, List, [], ◌∷◌, length, drop, Option, Some, None, is_some, inl, inr, true≢false, codes}
use Rattle.std.specs.Char.{encode_utf8}
use Rattle.std.specs.Prelude.{slice_get, option_map, ⊤, find, fold}
use Rattle.std.specs.List.{list_any}
use Rattle.std.specs.Option.{option_map_or, option_or}
use Rattle.std.specs.Str.{bytes_eq, chars}
use Rattle.std.proofs.lemmas.Slice.Eq.{bytes_eq-Decides}
use Rattle.clap.specs.Lexer.{long_of, short_of}
use Rattle.clap.specs.ValueTests.{accepts}
use Rattle.clap.specs.Facts.{explicit_source}
use Rattle.clap.specs.Takes.{is_given}
use Rattle.clap.specs.Walk.{Held, Outcome, Row, Rule, Step, Text, Waiting, Walk, idle, option, positional, after_step, option_word, used_by_id, with_default, finished, nothing_held, rows_after, next, trailing, value, plain, after_flag, arg_by_id, arg_by_long, arg_by_short, attached_value, bundle_met, bundle_step, flag_met, takes_values, has_long, has_row, has_short, long_met, long_or_other, option_met, plain_word, reacted, settled, short_met, short_or_plain, used, walked, word_met}
use Rattle.clap.specs.Simple.{Shape, new_shape}
use Rattle.clap.specs.Kinds.{Kinds, or_else}
use Rattle.clap.specs.Faults.{level_fault, defaults_fault, bundle_fault, bundle_step_fault, flag_word_fault, flags_fault, long_fault, option_fault, react_fault, settle_fault, short_fault, step_fault, positional_fault, turn_fault, use_fault, walk_fault, word_fault}
use Rattle.clap.specs.declared.error.kind.ErrorKind.TheVariants as kind
use Rattle.clap.specs.Values.{refused_kind}
use Rattle.h3_words.proofs.Lexed.{by_short, given, is_long, is_short, named, named_by, spelled}
use Rattle.h3_words.specs.Given.{given_by, with_true}
use Rattle.h3_words.proofs.Uses.{IsListed}
use Rattle.h3_words.specs.Options.{parser_done, id_of, is_flag, is_required, long_name, short_name}
use Rattle.h3_words.specs.declared.options.CommandOption.{CommandOption}
use Rattle.h3_words.specs.declared.options.CommandOption.TheVariants.{Cell}
use Rattle.h3_words.proofs.OptionRules.{or_nil, cons_nil, or_false, Which, differ, longs_differ, shorts_differ, bytes_same, values_after, rule_as, done_rule, flag_of, takes_value, Written, written_used, help_done, done_rules, FoundIn, found, no_position, row_of_option, used_fresh, find_added, none_found, by_flag, at_option, at_help, by_value, nowhere}

-- ---- what is known of one option's row

-- the value passes the option's parser
abbrev pub Passes : CommandOption → Option Text → Type 0
Passes o None = ⊤
Passes o (Some v) = accepts false (parser_done o) v ≡ true

-- the entry of the option has this value, which passes its parser
abbrev pub Holds : CommandOption → List Row → Option Text → Type 0
Holds o rs s = (find (λ r. bytes_eq r.id (id_of o)) rs ≡ option_map (row_of_option o) s) × Passes o s

-- what a use of q with this value is to o
abbrev pub mine : {X : Type 0} {q o : CommandOption} → Which q o → X → Option X
mine (inl same) x = Some x
mine (inr d) x = None

pub use_splits : (q : CommandOption) (v : Text) (vs : List Text) → Written q v vs → (rs : List Row)
    → use_fault false (done_rule q) vs rs ≡ []
    → (has_row (id_of q) rs ≡ false) × (accepts false (parser_done q) v ≡ true)
use_splits q text vs written rs e = split text vs written e
  where
    go : (v : Text) (a b : Bool)
        → or_else (cond (a && true) (kind.ArgumentConflict ∷ []) [])
        (or_else (cond b [] (refused_kind (parser_done q) ∷ [])) [])
        ≡ []
        → (a ≡ false) × (b ≡ true)
    go v true b e2 = cc
    go v false true e2 = (refl, refl)
    go v false false e2 = cc

    split : (v : Text) (ws : List Text) → Written q v ws → use_fault false (done_rule q) ws rs ≡ []
        → (has_row (id_of q) rs ≡ false) × (accepts false (parser_done q) v ≡ true)
    split _ _ (by_value v takes) f =
        go v (has_row (id_of q) rs) (accepts false (parser_done q) v)
        (subst (λ b. use_fault false (rule_as b q) (v ∷ []) rs ≡ []) takes f)
    split _ _ (by_flag flag) f =
        go (codes "true") (has_row (id_of q) rs) (accepts false (parser_done q) (codes "true"))
        (subst (λ b. use_fault false (rule_as b q) [] rs ≡ []) flag f)

grown : (o q : CommandOption) (v : Text) (vs : List Text) → Written q v vs → (rs : List Row)
    → use_fault false (done_rule q) vs rs ≡ []
    → find (λ r. bytes_eq r.id (id_of o)) (used (done_rule q) vs rs)
    ≡ option_or (find (λ r. bytes_eq r.id (id_of o)) rs)
    (cond (bytes_eq (id_of q) (id_of o)) (Some (row_of_option q v)) None)
grown o q v vs written rs e =
    ap (find (λ (r : Row). bytes_eq r.id (id_of o)))
    (written_used q v vs written rs ∙ used_fresh q v rs (use_splits q v vs written rs e).0)
    ∙ find_added (λ (r : Row). bytes_eq r.id (id_of o)) rs (row_of_option q v)

same_row : (o q : CommandOption) (v : Text) → q ≡ o
    → cond (bytes_eq (id_of q) (id_of o)) (Some (row_of_option q v)) None ≡ Some (row_of_option o v)
same_row o q v same = ap (λ x. cond (bytes_eq (id_of x) (id_of o)) (Some (row_of_option x v)) None) same
    ∙ ap (λ b. cond b (Some (row_of_option o v)) None) (bytes_same (id_of o))

pub some_none : {X : Type 0} (x : X) → Some x ≡ None → ⊥
some_none x e = cc

pub use_holds : (o q : CommandOption) (d : Which q o) (v : Text) (vs : List Text) → Written q v vs
    → (rs : List Row) (s : Option Text) → Holds o rs s
    → use_fault false (done_rule q) vs rs ≡ [] → Holds o (used (done_rule q) vs rs) (option_or s (mine d v))
use_holds o q (inl same) v vs written rs None h e = (
  grown o q v vs written rs e ∙ ap₂ option_or h.0 (same_row o q v same),
  subst (λ x. accepts false (parser_done x) v ≡ true) same (use_splits q v vs written rs e).1,
)
use_holds o q (inl same) v vs written rs (Some t) h e = absurd (some_none (row_of_option o t)
    (sym h.0 ∙ none_found (id_of o) rs (subst (λ x. has_row (id_of x) rs ≡ false) same
    (use_splits q v vs written rs e).0)))
use_holds o q (inr d) v vs written rs None h e =
    (grown o q v vs written rs e ∙ ap₂ option_or h.0 (ap (λ b. cond b (Some (row_of_option q v)) None) d.0), tt)
use_holds o q (inr d) v vs written rs (Some t) h e =
    (grown o q v vs written rs e ∙ ap₂ option_or h.0 (ap (λ b. cond b (Some (row_of_option q v)) None) d.0), h.1)

-- ---- what one word is

-- what the word is to o, where it names q
abbrev pub NamesIt : CommandOption → CommandOption → Text → Option Text → Type 0
NamesIt o q word x = (d : Which q o) → named o word ≡ mine d x

-- what is held between two words
abbrev pub idle_held : List Row → Option (Text × List Text) → Held
idle_held rows pending = record { rows = rows; pending = pending; skip = 0 }

true_none : (b : Bool) → with_true b None ≡ None
true_none true = refl
true_none false = refl

-- a word that does not name the option, or names another, gives it no text
pub unnamed : (o : CommandOption) (word : Text) → spelled o word ≡ None → named o word ≡ None
unnamed o word e = ap (with_true (is_flag o)) e ∙ true_none (is_flag o)

-- a word that names q, which is no flag, has for o what it has
pub value_is : (o q : CommandOption) (d : Which q o) (word : Text) (v : Option Text) → is_flag q ≡ false
    → spelled o word ≡ mine d v → named o word ≡ mine d v
value_is o q (inl same) word v takes e =
    ap (with_true (is_flag o)) e ∙ ap (λ b. with_true b (Some v)) (sym (ap is_flag same) ∙ takes)
value_is o q (inr d) word v takes e = unnamed o word e

-- a word that names the flag q alone gives it the text `true`
pub flag_is : (o q : CommandOption) (d : Which q o) (word : Text) → is_flag q ≡ true → spelled o word ≡ mine d None
    → named o word ≡ mine d (Some (codes "true"))
flag_is o q (inl same) word flag e =
    ap (with_true (is_flag o)) e ∙ ap (λ b. with_true b (Some None)) (sym (ap is_flag same) ∙ flag)
flag_is o q (inr d) word flag e = unnamed o word e

-- what one word does: it names an option, with a value or alone, or ends the options, or is none
pub data Turn (os : List CommandOption) (o : CommandOption) (word : Text) (wt : Waiting) (h : Held) : Held × Step
    → Type 0 where
  attached : (q : CommandOption) (v : Text) (vs : List Text) → Written q v vs
      → arg_by_id (done_rules os) (id_of q) ≡ Some (done_rule q)
      → settle_fault (done_rules os) false h ≡ []
      → use_fault false (done_rule q) vs (settled (done_rules os) h).rows ≡ [] → NamesIt o q word (Some v)
      → Turn os o word wt h (reacted (done_rules os) (done_rule q) vs h, next idle)
  alone : (q : CommandOption) → is_flag q ≡ false → arg_by_id (done_rules os) (id_of q) ≡ Some (done_rule q)
      → settle_fault (done_rules os) false h ≡ []
      → NamesIt o q word None
      → Turn os o word wt h
      (record (settled (done_rules os) h) { pending = Some (id_of q, []) }, next (option (id_of q)))
  dashes : named o word ≡ None → Turn os o word wt h (h, trailing 1)
  other : named o word ≡ None → Turn os o word wt h (plain_word (done_rules os) wt word h)

-- the option with the value attached, if any
option_turn : (os : List CommandOption) (o : CommandOption) (word : Text) (wt : Waiting) (rows : List Row)
    (p : Option (Text × List Text)) (q : CommandOption) (v : Option Text)
    → is_flag q ≡ false → arg_by_id (done_rules os) (id_of q) ≡ Some (done_rule q)
    → ((d : Which q o) → spelled o word ≡ mine d v)
    → option_fault (done_rules os) false (done_rule q) v (idle_held rows p) ≡ []
    → Turn os o word wt (idle_held rows p) (after_flag (done_rules os) wt word
    (option_met (done_rules os) (done_rule q) v (idle_held rows p)).0
    (option_met (done_rules os) (done_rule q) v (idle_held rows p)).1)
option_turn os o word wt rows p q (Some v) takes by_id is e =
    let two = or_nil _ _ e in attached q v (v ∷ []) (by_value v takes) by_id two.0 two.1
    (λ d. value_is o q d word (Some v) takes (is d))
option_turn os o word wt rows p q None takes by_id is e =
    alone q takes by_id e (λ d. value_is o q d word None takes (is d))

-- the option by its long name, with the value attached, if any
named_turn : (os : List CommandOption) (o : CommandOption) (word : Text) (wt : Waiting) (rows : List Row)
    (p : Option (Text × List Text)) (q : CommandOption) (v : Option Text)
    → arg_by_id (done_rules os) (id_of q) ≡ Some (done_rule q) → ((d : Which q o) → spelled o word ≡ mine d v)
    → long_fault (done_rules os) false (Some (done_rule q)) v (idle_held rows p) ≡ []
    → Turn os o word wt (idle_held rows p) (after_flag (done_rules os) wt word
    (long_met (done_rules os) (Some (done_rule q)) v (idle_held rows p)).0
    (long_met (done_rules os) (Some (done_rule q)) v (idle_held rows p)).1)
named_turn os o word wt rows p q given_value by_id named_it f =
    go (takes_values (done_rule q)) (flag_of q (takes_values (done_rule q)) refl) given_value named_it f
  where
    go : (t : Bool) → is_flag q ≡ not t → (v : Option Text) → ((d : Which q o) → spelled o word ≡ mine d v)
        → cond t (option_fault (done_rules os) false (done_rule q) v (idle_held rows p))
        (cond (is_some v) (kind.TooManyValues ∷ [])
        (react_fault (done_rules os) false (done_rule q) [] (idle_held rows p)))
        ≡ []
        → Turn os o word wt (idle_held rows p) (after_flag (done_rules os) wt word
        (cond t (option_met (done_rules os) (done_rule q) v (idle_held rows p))
        (flag_met (done_rules os) (done_rule q) v (idle_held rows p))).0
        (cond t (option_met (done_rules os) (done_rule q) v (idle_held rows p))
        (flag_met (done_rules os) (done_rule q) v (idle_held rows p))).1)
    go true takes v is e = option_turn os o word wt rows p q v takes by_id is e
    go false flag (Some v) is e = absurd (cons_nil kind.TooManyValues [] e)
    go false flag None is e =
        let two = or_nil _ _ e in
        attached q (codes "true") [] (by_flag flag) by_id two.0 two.1 (λ d. flag_is o q d word flag (is d))

pub help_faults : (os : List CommandOption) (h : Held) → react_fault (done_rules os) false help_done [] h ≡ [] → ⊥
help_faults os h e = cons_nil kind.DisplayHelp [] (or_nil (settle_fault (done_rules os) false h) _ e).1

pub long_is : (o q : CommandOption) (d : Which q o) (word name : Text) (v : Option Text) → long_of word ≡ Some (
  name,
  v,
) → is_long q name ≡ true → spelled o word ≡ mine d v
long_is o q (inl same) word name v e hit =
    ap (λ l. named_by o l (short_of word)) e
    ∙ ap (λ b. cond b (Some v) None) (subst (λ x. is_long x name ≡ true) same hit)
long_is o q (inr d) word name v e hit =
    ap (λ l. named_by o l (short_of word)) e
    ∙ ap (λ b. cond b (Some v) None) (longs_differ (long_name o) (long_name q) name d.1 hit)

long_turn : (os : List CommandOption) (o : CommandOption) (word : Text) (wt : Waiting) (rows : List Row)
    (p : Option (Text × List Text)) (name : Text) (v : Option Text) (r : Option Rule)
    → FoundIn (λ a. not (is_some a.index) && has_long a name) (done_rules os) r → long_of word ≡ Some (name, v)
    → long_fault (done_rules os) false r v (idle_held rows p) ≡ []
    → Turn os o word wt (idle_held rows p) (after_flag (done_rules os) wt word
    (long_met (done_rules os) r v (idle_held rows p)).0 (long_met (done_rules os) r v (idle_held rows p)).1)
long_turn os o word wt rows p name v _ (at_option q hit by_id) e f =
    named_turn os o word wt rows p q v by_id (λ d. long_is o q d word name v e (sym (or_false _) ∙ hit)) f
long_turn os o word wt rows p name None _ at_help e f = absurd (help_faults os (idle_held rows p) f)
long_turn os o word wt rows p name (Some v) _ at_help e f = absurd (cons_nil kind.TooManyValues [] f)
long_turn os o word wt rows p name v _ nowhere e f = absurd (cons_nil kind.UnknownArgument [] f)

-- a short name is one byte
one_byte : (q : CommandOption) → option_map_or (λ c. length (encode_utf8 c) == 1) (short_name q) true ≡ true
unfolding encode_utf8
one_byte Cell = refl
one_byte q = refl

pub ascii_short : (q : CommandOption) (y : ℕ) → is_short q y ≡ true → length (encode_utf8 y) ≡ 1
ascii_short q y e = go (short_name q) (one_byte q) e
  where
    go : (s : Option ℕ) → option_map_or (λ c. length (encode_utf8 c) == 1) s true ≡ true
        → option_map_or (λ c. c == y) s false ≡ true → length (encode_utf8 y) ≡ 1
    go None one hit = absurd (true≢false (sym hit))
    go (Some c) one hit =
        let same : c ≡ y = grind arith in
        let is : length (encode_utf8 c) ≡ 1 = grind arith in
        ap (λ x. length (encode_utf8 x)) (sym same) ∙ is

pub short_is : (o q : CommandOption) (d : Which q o) (word flags : Text) (y : ℕ) → long_of word ≡ None
    → short_of word ≡ Some flags → slice_get (chars flags) 0 ≡ Some y
    → is_short q y ≡ true → spelled o word ≡ mine d (attached_value (drop (length (encode_utf8 y)) flags))
short_is o q d word flags y no_long is_flags first hit =
    ap₂ (named_by o) no_long is_flags ∙ ap (by_short o flags) first ∙ go d
  where
    one : attached_value (drop 1 flags) ≡ attached_value (drop (length (encode_utf8 y)) flags)
    one = ap (λ n. attached_value (drop n flags)) (sym (ascii_short q y hit))

    go : (w : Which q o) → by_short o flags (Some y) ≡ mine w (attached_value (drop (length (encode_utf8 y)) flags))
    go (inl same) =
        ap (λ b. cond b (Some (attached_value (drop 1 flags))) None) (subst (λ x. is_short x y ≡ true) same hit)
        ∙ ap (λ v. Some v) one
    go (inr w) =
        ap (λ b. cond b (Some (attached_value (drop 1 flags))) None)
        (shorts_differ (short_name o) (short_name q) y w.2 hit)

-- an option with a short name is no flag
no_short_flag : (q : CommandOption) → (is_some (short_name q) && is_flag q) ≡ false
no_short_flag Cell = refl
no_short_flag q = refl

pub short_plain : (q : CommandOption) (y : ℕ) → is_short q y ≡ true → is_flag q ≡ false
short_plain q y e = go (short_name q) (is_flag q) (no_short_flag q) e
  where
    go : (s : Option ℕ) (flag : Bool) → (is_some s && flag) ≡ false → option_map_or (λ c. c == y) s false ≡ true
        → flag ≡ false
    go None flag apart hit = absurd (true≢false (sym hit))
    go (Some c) flag apart hit = apart

short_turn : (os : List CommandOption) (o : CommandOption) (word : Text) (wt : Waiting) (rows : List Row)
    (p : Option (Text × List Text)) (flags : Text) (y : ℕ) (r : Option Rule)
    (nf : Held → Kinds) (nm : Held → Held × Outcome)
    → FoundIn (λ a. not (is_some a.index) && has_short a y) (done_rules os) r
    → long_of word ≡ None → short_of word ≡ Some flags → slice_get (chars flags) 0 ≡ Some y
    → short_fault (done_rules os) false r (drop (length (encode_utf8 y)) flags) (idle_held rows p) nf ≡ []
    → Turn os o word wt (idle_held rows p) (after_flag (done_rules os) wt word
    (short_met (done_rules os) r (drop (length (encode_utf8 y)) flags) (idle_held rows p) nm).0
    (short_met (done_rules os) r (drop (length (encode_utf8 y)) flags) (idle_held rows p) nm).1)
short_turn os o word wt rows p flags y _ nf nm (at_option q hit by_id) no_long is_flags first f =
    go (takes_values (done_rule q)) (takes_value q plain_option) f
  where
    named_q : is_short q y ≡ true
    named_q = sym (or_false _) ∙ hit

    plain_option : is_flag q ≡ false
    plain_option = short_plain q y named_q

    rest : Text
    rest = drop (length (encode_utf8 y)) flags

    go : (t : Bool) → t ≡ true
        → cond t (option_fault (done_rules os) false (done_rule q) (attached_value rest) (idle_held rows p))
        (or_else (react_fault (done_rules os) false (done_rule q) [] (idle_held rows p))
        (nf (reacted (done_rules os) (done_rule q) [] (idle_held rows p))))
        ≡ []
        → Turn os o word wt (idle_held rows p) (after_flag (done_rules os) wt word
        (cond t (option_met (done_rules os) (done_rule q) (attached_value rest) (idle_held rows p))
        (nm (reacted (done_rules os) (done_rule q) [] (idle_held rows p)))).0
        (cond t (option_met (done_rules os) (done_rule q) (attached_value rest) (idle_held rows p))
        (nm (reacted (done_rules os) (done_rule q) [] (idle_held rows p)))).1)
    go true e fine =
        option_turn os o word wt rows p q (attached_value rest) plain_option by_id
        (λ d. short_is o q d word flags y no_long is_flags first named_q) fine
    go false e fine = absurd (true≢false (sym e))
short_turn os o word wt rows p flags y _ nf nm at_help no_long is_flags first f =
    absurd (help_faults os (idle_held rows p) (or_nil _ _ f).0)
short_turn os o word wt rows p flags y _ nf nm nowhere no_long is_flags first f =
    absurd (cons_nil kind.UnknownArgument [] f)

head_turn : (os : List CommandOption) (o : CommandOption) (word : Text) (wt : Waiting) (rows : List Row)
    (p : Option (Text × List Text)) (flags : Text) (y : Option ℕ)
    (nf : Text → ℕ → Held → Kinds) (nm : Text → ℕ → Outcome → Held → Held × Outcome)
    → long_of word ≡ None → short_of word ≡ Some flags → slice_get (chars flags) 0 ≡ y
    → bundle_step_fault (done_rules os) false y flags 0 (idle_held rows p) nf ≡ []
    → Turn os o word wt (idle_held rows p) (after_flag (done_rules os) wt word
    (bundle_step (done_rules os) y flags 0 plain (idle_held rows p) nm).0
    (bundle_step (done_rules os) y flags 0 plain (idle_held rows p) nm).1)
head_turn os o word wt rows p flags None nf nm no_long is_flags first f =
    other (unnamed o word (ap₂ (named_by o) no_long is_flags ∙ ap (by_short o flags) first))
head_turn os o word wt rows p flags (Some y) nf nm no_long is_flags first f =
    short_turn os o word wt rows p flags y (arg_by_short (done_rules os) y) _ _
    (found (λ a. not (is_some a.index) && has_short a y) os) no_long is_flags first f

bundle_turn : (os : List CommandOption) (o : CommandOption) (word : Text) (wt : Waiting) (rows : List Row)
    (p : Option (Text × List Text)) (flags : Text)
    → long_of word ≡ None → short_of word ≡ Some flags
    → flags_fault (done_rules os) false (length flags) flags 0 (idle_held rows p) ≡ []
    → Turn os o word wt (idle_held rows p) (after_flag (done_rules os) wt word
    (bundle_met (done_rules os) (length flags) flags 0 plain (idle_held rows p)).0
    (bundle_met (done_rules os) (length flags) flags 0 plain (idle_held rows p)).1)
unfolding flags_fault bundle_met chars
bundle_turn os o word wt rows p [] no_long is_flags f = other (unnamed o word (ap₂ (named_by o) no_long is_flags))
bundle_turn os o word wt rows p (x ∷ xs) no_long is_flags f =
    head_turn os o word wt rows p (x ∷ xs) (slice_get (chars (x ∷ xs)) 0) _ _ no_long is_flags refl f

short_or_turn : (os : List CommandOption) (o : CommandOption) (word : Text) (wt : Waiting) (rows : List Row)
    (p : Option (Text × List Text)) (sh : Option Text)
    → long_of word ≡ None → short_of word ≡ sh
    → option_map_or (λ flags. bundle_fault (done_rules os) false flags (idle_held rows p)) sh [] ≡ []
    → Turn os o word wt (idle_held rows p) (short_or_plain (done_rules os) wt word sh (idle_held rows p))
short_or_turn os o word wt rows p None no_long is_flags f = other (unnamed o word (ap₂ (named_by o) no_long is_flags))
short_or_turn os o word wt rows p (Some flags) no_long is_flags f =
    bundle_turn os o word wt rows p flags no_long is_flags f

flag_turn : (os : List CommandOption) (o : CommandOption) (word : Text) (wt : Waiting) (rows : List Row)
    (p : Option (Text × List Text)) (l : Option (Text × Option Text))
    → long_of word ≡ l → flag_word_fault (done_rules os) false l word (idle_held rows p) ≡ []
    → Turn os o word wt (idle_held rows p) (long_or_other (done_rules os) wt word l (idle_held rows p))
flag_turn os o word wt rows p (Some (name, v)) e f =
    long_turn os o word wt rows p name v (arg_by_long (done_rules os) name)
    (found (λ a. not (is_some a.index) && has_long a name) os) e f
flag_turn os o word wt rows p None e f = short_or_turn os o word wt rows p (short_of word) e refl f

pub dash_turn : (os : List CommandOption) (o : CommandOption) (word : Text) (wt : Waiting) (rows : List Row)
    (p : Option (Text × List Text)) (b : Bool)
    → bytes_eq word (45 ∷ 45 ∷ []) ≡ b
    → cond b [] (flag_word_fault (done_rules os) false (long_of word) word (idle_held rows p)) ≡ []
    → Turn os o word wt (idle_held rows p) (cond b (idle_held rows p, trailing 1)
    (long_or_other (done_rules os) wt word (long_of word) (idle_held rows p)))
dash_turn os o word wt rows p true e f =
    dashes (unnamed o word (ap (spelled o) ((bytes_eq-Decides word (45 ∷ 45 ∷ [])).0 e)))
dash_turn os o word wt rows p false e f = flag_turn os o word wt rows p (long_of word) refl f

-- ---- the walk

-- a command as `clap` completes it
abbrev pub leaf_done : Text → List CommandOption → Shape
leaf_done name os = record (new_shape name) { rules = done_rules os; disable_help_subcommand = true; is_built = true }

-- the walk at a word
abbrev pub at_word : Held → Waiting → Walk
at_word h wt = record { held = h; waiting = wt; position = 1; is_trailing = false; stopped = None }

word_turn : (name : Text) (os : List CommandOption) (o : CommandOption) (word : Text) (wt : Waiting) (rows : List Row)
    (p : Option (Text × List Text))
    → word_fault (leaf_done name os) [] false wt word (idle_held rows p) ≡ []
    → Turn os o word wt (idle_held rows p) (word_met (done_rules os) [] false wt 1 word (idle_held rows p))
word_turn name os o word idle rows p f = dash_turn os o word idle rows p (bytes_eq word (45 ∷ 45 ∷ [])) refl f
word_turn name os o word (option id) rows p f =
    dash_turn os o word (option id) rows p (bytes_eq word (45 ∷ 45 ∷ [])) refl f
word_turn name os o word positional rows p f =
    dash_turn os o word positional rows p (bytes_eq word (45 ∷ 45 ∷ [])) refl f

-- what is held after the words
abbrev pub walk_end : List CommandOption → Walk → List Text → Held
walk_end os w words = (fold (walked (done_rules os) []) w words).held

-- where no step fails from here on, the entry of the option has this value at the end
abbrev pub Ends : Text → List CommandOption → CommandOption → Walk → List Text → Option Text → Type 0
Ends name os o w words s =
    walk_fault (leaf_done name os) [] w words ≡ [] → settle_fault (done_rules os) false (walk_end os w words) ≡ []
    → Holds o (settled (done_rules os) (walk_end os w words)).rows s

-- what the words give where no option waits for its value
abbrev pub Idle : Text → List CommandOption → CommandOption → List Text → Type 0
Idle name os o words = (rows : List Row) (p : Option (Text × List Text)) (s : Option Text)
    → (settle_fault (done_rules os) false (idle_held rows p) ≡ []
    → Holds o (settled (done_rules os) (idle_held rows p)).rows s)
    → Ends name os o (at_word (idle_held rows p) idle) words (option_or s (given o words))

-- what the words give where an option waits for its value
abbrev pub Waits : Text → List CommandOption → CommandOption → List Text → Type 0
Waits name os o words = (rows : List Row) (q : CommandOption) (d : Which q o) (s : Option Text)
    → is_flag q ≡ false → arg_by_id (done_rules os) (id_of q) ≡ Some (done_rule q) → Holds o rows s
    → Ends name os o (at_word (idle_held rows (Some (id_of q, []))) (option (id_of q))) words
    (option_or s (given_by (mine d None) words (given o words)))

pub some_first : {X : Type 0} (s : Option X) → option_or s None ≡ s
some_first None = refl
some_first (Some x) = refl

-- an option with no value fails
no_value : (os : List CommandOption) (q : CommandOption) (rows : List Row) → is_flag q ≡ false
    → arg_by_id (done_rules os) (id_of q) ≡ Some (done_rule q)
    → settle_fault (done_rules os) false (idle_held rows (Some (id_of q, []))) ≡ [] → ⊥
no_value os q rows takes by_id e = cons_nil kind.InvalidValue []
    (subst (λ b. use_fault false (rule_as b q) [] rows ≡ []) takes
    (sym (ap (λ r. option_map_or (λ a. use_fault false a [] rows) r []) by_id) ∙ e))

stray : (name : Text) (os : List CommandOption) (h : Held) → step_fault (leaf_done name os) 1 h value ≡ [] → ⊥
stray name os h e = cons_nil kind.UnknownArgument []
    (sym (ap (λ r. option_map_or (λ a. positional_fault (done_rules os) false a h) r (kind.UnknownArgument ∷ []))
    (no_position 1 os)) ∙ e)

trailing_ends : (name : Text) (os : List CommandOption) (h : Held) (wt : Waiting) (word : Text) (rest : List Text)
    → walk_fault (leaf_done name os) [] (record (at_word h wt) { is_trailing = true }) (word ∷ rest) ≡ [] → ⊥
unfolding walk_fault
trailing_ends name os h wt word rest f = stray name os h (or_nil _ _ f).0

attached_same : (s : Option Text) (o q : CommandOption) (d : Which q o) (v : Text) (rest : List Text)
    (later : Option Text)
    → option_or (option_or s (mine d v)) later ≡ option_or s (given_by (mine d (Some v)) rest later)
attached_same None o q (inl same) v rest later = refl
attached_same (Some t) o q (inl same) v rest later = refl
attached_same None o q (inr d) v rest later = refl
attached_same (Some t) o q (inr d) v rest later = refl

value_same : (s : Option Text) (o q : CommandOption) (d : Which q o) (v : Text) (rest : List Text) (later : Option Text)
    → option_or (option_or s (mine d v)) later ≡ option_or s (given_by (mine d None) (v ∷ rest) later)
value_same None o q (inl same) v rest later = refl
value_same (Some t) o q (inl same) v rest later = refl
value_same None o q (inr d) v rest later = refl
value_same (Some t) o q (inr d) v rest later = refl

idle_took : (name : Text) (os : List CommandOption) (o : CommandOption) (word : Text) (rest : List Text)
    → Idle name os o rest → Waits name os o rest
    → (rows : List Row) (p : Option (Text × List Text)) (s : Option Text)
    → (settle_fault (done_rules os) false (idle_held rows p) ≡ []
    → Holds o (settled (done_rules os) (idle_held rows p)).rows s)
    → (m : Held × Step) → Turn os o word idle (idle_held rows p) m → step_fault (leaf_done name os) 1 m.0 m.1 ≡ []
    → Ends name os o (after_step (done_rules os) word (at_word (idle_held rows p) idle) m.0 m.1) rest
    (option_or s (given o (word ∷ rest)))
idle_took name os o word rest i w rows p s ready _ (attached q v vs written by_id settles uses is) step f e =
    let d = differ q o in
    subst (λ x. Holds o (settled (done_rules os)
    (walk_end os (at_word (reacted (done_rules os) (done_rule q) vs (idle_held rows p)) idle) rest)).rows x)
    (attached_same s o q d v rest (given o rest) ∙ ap (λ n. option_or s (given_by n rest (given o rest))) (sym (is d)))
    (i _ None (option_or s (mine d v)) (λ _. use_holds o q d v vs written _ s (ready settles) uses) f e)
idle_took name os o word rest i w rows p s ready _ (alone q takes by_id settles is) step f e =
    let d = differ q o in
    subst (λ x. Holds o (settled (done_rules os) (walk_end os (at_word
    (record (settled (done_rules os) (idle_held rows p)) { pending = Some (id_of q, []) })
    (option (id_of q))) rest)).rows x)
    (ap (λ n. option_or s (given_by n rest (given o rest))) (sym (is d)))
    (w _ q d s takes by_id (ready settles) f e)
idle_took name os o word [] i w rows p s ready _ (dashes is) step f e =
    subst (λ x. Holds o (settled (done_rules os) (idle_held rows p)).rows x)
    (sym (some_first s) ∙ ap (λ n. option_or s (given_by n [] None)) (sym is)) (ready e)
idle_took name os o word (x ∷ rest) i w rows p s ready _ (dashes is) step f e =
    absurd (trailing_ends name os (idle_held rows p) idle x rest f)
idle_took name os o word rest i w rows p s ready _ (other is) step f e = absurd (stray name os (idle_held rows p) step)

wait_ready : (os : List CommandOption) (o q : CommandOption) (d : Which q o) (rows : List Row) (s : Option Text)
    (word : Text)
    → is_flag q ≡ false → arg_by_id (done_rules os) (id_of q) ≡ Some (done_rule q) → Holds o rows s
    → settle_fault (done_rules os) false (idle_held rows (Some (id_of q, word ∷ []))) ≡ []
    → Holds o (settled (done_rules os) (idle_held rows (Some (id_of q, word ∷ [])))).rows (option_or s (mine d word))
wait_ready os o q d rows s word takes by_id holds e =
    subst (λ r. Holds o (used_by_id r (word ∷ []) rows) (option_or s (mine d word))) (sym by_id)
    (use_holds o q d word (word ∷ []) (by_value word takes) rows s holds
    (sym (ap (λ r. option_map_or (λ a. use_fault false a (word ∷ []) rows) r []) by_id) ∙ e))

pub value_state : (os : List CommandOption) (q : CommandOption) (rows : List Row) (word : Text) → is_flag q ≡ false
    → arg_by_id (done_rules os) (id_of q) ≡ Some (done_rule q)
    → at_word (option_word (arg_by_id (done_rules os) (id_of q)) (id_of q) word (idle_held rows (Some (id_of q, [])))).0
    (option_word (arg_by_id (done_rules os) (id_of q)) (id_of q) word (idle_held rows (Some (id_of q, [])))).1
    ≡ at_word (idle_held rows (Some (id_of q, word ∷ []))) idle
value_state os q rows word takes by_id =
    ap (λ r. at_word (option_word r (id_of q) word (idle_held rows (Some (id_of q, [])))).0
    (option_word r (id_of q) word (idle_held rows (Some (id_of q, [])))).1) by_id
    ∙ ap (λ b. at_word (idle_held rows (Some (id_of q, word ∷ [])))
    (cond (nat_lt (cond (bytes_eq (id_of q) (id_of q)) 1 0) (values_after b)) (option (id_of q)) idle)) takes
    ∙ ap (λ b. at_word (idle_held rows (Some (id_of q, word ∷ [])))
    (cond (nat_lt (cond b 1 0) 1) (option (id_of q)) idle)) (bytes_same (id_of q))

wait_took : (name : Text) (os : List CommandOption) (o : CommandOption) (word : Text) (rest : List Text)
    → Idle name os o rest
    → (rows : List Row) (q : CommandOption) (d : Which q o) (s : Option Text) → is_flag q ≡ false
    → arg_by_id (done_rules os) (id_of q) ≡ Some (done_rule q) → Holds o rows s
    → (m : Held × Step) → Turn os o word (option (id_of q)) (idle_held rows (Some (id_of q, []))) m
    → step_fault (leaf_done name os) 1 m.0 m.1 ≡ []
    → Ends name os o (after_step (done_rules os) word
    (at_word (idle_held rows (Some (id_of q, []))) (option (id_of q))) m.0 m.1) rest
    (option_or s (given_by (mine d None) (word ∷ rest) (given o (word ∷ rest))))
wait_took name os o word rest i rows q d s takes by_id holds _ (attached q2 v vs written by2 settles uses is) step f e =
    absurd (no_value os q rows takes by_id settles)
wait_took name os o word rest i rows q d s takes by_id holds _ (alone q2 plain2 by2 settles is) step f e =
    absurd (no_value os q rows takes by_id settles)
wait_took name os o word [] i rows q d s takes by_id holds _ (dashes is) step f e =
    absurd (no_value os q rows takes by_id e)
wait_took name os o word (x ∷ rest) i rows q d s takes by_id holds _ (dashes is) step f e =
    absurd (trailing_ends name os (idle_held rows (Some (id_of q, []))) (option (id_of q)) x rest f)
wait_took name os o word rest i rows q d s takes by_id holds _ (other is) step f e =
    subst (λ w. Ends name os o w rest (option_or s (given_by (mine d None) (word ∷ rest) (given o (word ∷ rest)))))
    (sym (value_state os q rows word takes by_id))
    (λ f2 e2. subst (λ x. Holds o (settled (done_rules os)
    (walk_end os (at_word (idle_held rows (Some (id_of q, word ∷ []))) idle) rest)).rows x)
    (value_same s o q d word rest (given o rest)
    ∙ ap (λ n. option_or s (given_by (mine d None) (word ∷ rest) (given_by n rest (given o rest)))) (sym is))
    (i rows (Some (id_of q, word ∷ [])) (option_or s (mine d word)) (wait_ready os o q d rows s word takes by_id holds)
    f2 e2)) f e

idle_step : (name : Text) (os : List CommandOption) (o : CommandOption) (word : Text) (rest : List Text)
    → Idle name os o rest → Waits name os o rest → Idle name os o (word ∷ rest)
unfolding walk_fault walked
idle_step name os o word rest i w rows p s ready f e =
    let parts = or_nil (turn_fault (leaf_done name os) [] (at_word (idle_held rows p) idle) word) _ f in
    let two = or_nil (word_fault (leaf_done name os) [] false idle word (idle_held rows p)) _ parts.0 in
    idle_took name os o word rest i w rows p s ready (word_met (done_rules os) [] false idle 1 word (idle_held rows p))
    (word_turn name os o word idle rows p two.0) two.1 parts.1 e

wait_step : (name : Text) (os : List CommandOption) (o : CommandOption) (word : Text) (rest : List Text)
    → Idle name os o rest → Waits name os o (word ∷ rest)
unfolding walk_fault walked
wait_step name os o word rest i rows q d s takes by_id holds f e =
    let h = idle_held rows (Some (id_of q, [])) in
    let parts = or_nil (turn_fault (leaf_done name os) [] (at_word h (option (id_of q))) word) _ f in
    let two = or_nil (word_fault (leaf_done name os) [] false (option (id_of q)) word h) _ parts.0 in
    wait_took name os o word rest i rows q d s takes by_id holds
    (word_met (done_rules os) [] false (option (id_of q)) 1 word h)
    (word_turn name os o word (option (id_of q)) rows (Some (id_of q, [])) two.0) two.1 parts.1 e

pub walks : (name : Text) (os : List CommandOption) (o : CommandOption) (words : List Text)
    → Idle name os o words × Waits name os o words
unfolding walk_fault
walks name os o [] = (
  λ rows p s ready f e. subst (λ x. Holds o (settled (done_rules os) (idle_held rows p)).rows x) (sym (some_first s))
      (ready e),
  λ rows q d s takes by_id holds f e. absurd (no_value os q rows takes by_id e),
)
walks name os o (word ∷ rest) =
    let later = walks name os o rest in
    (idle_step name os o word rest later.0 later.1, wait_step name os o word rest later.0)

-- ---- one command

pub no_default : (os : List CommandOption) (rs : List Row) → fold with_default rs (done_rules os) ≡ rs
no_default [] rs = go (has_row (codes "help") rs)
  where
    go : (b : Bool) → cond b rs rs ≡ rs
    go true = refl
    go false = refl
no_default (x ∷ os) rs = ap (λ r. fold with_default r (done_rules os)) (go (has_row (id_of x) rs)) ∙ no_default os rs
  where
    go : (b : Bool) → cond b rs rs ≡ rs
    go true = refl
    go false = refl

wanted : (o : CommandOption) (os : List CommandOption) (rs : List Row) → IsListed o os → is_required o ≡ true
    → list_any (λ a. a.required && not (is_given a.id rs)) (done_rules os) ≡ false → is_given (id_of o) rs ≡ true
wanted o [] rs none needed e = absurd none
wanted o (x ∷ os) rs is needed e = go (is_required x) refl (is_given (id_of x) rs) refl is (wanted o os rs) e
  where
    go : (r : Bool) → is_required x ≡ r → (b : Bool) → is_given (id_of x) rs ≡ b → (x ≡ o) ⊎ IsListed o os
        → (IsListed o os → is_required o ≡ true
        → list_any (λ a. a.required && not (is_given a.id rs)) (done_rules os) ≡ false
        → is_given (id_of o) rs ≡ true)
        → ((r && not b) || list_any (λ a. a.required && not (is_given a.id rs)) (done_rules os)) ≡ false
        → is_given (id_of o) rs ≡ true
    go true req true at (inl same) later e2 = subst (λ y. is_given (id_of y) rs ≡ true) same at
    go true req true at (inr is2) later e2 = later is2 needed e2
    go true req false at is2 later e2 = absurd (true≢false e2)
    go false req b at (inl same) later e2 = absurd (true≢false (sym needed ∙ sym (ap is_required same) ∙ req))
    go false req b at (inr is2) later e2 = later is2 needed e2

pub missing_nil : (b : Bool) → cond b (kind.MissingRequiredArgument ∷ []) [] ≡ [] → b ≡ false
missing_nil true e = cc
missing_nil false e = refl

-- the entry of the option is what the words give it, which passes its parser; and where the command requires the
-- option, the words give it
pub record Reads (os : List CommandOption) (o : CommandOption) (words : List Text) (rs : List Row) : Type 0 where
  pub holds : Holds o rs (given o words)
  pub wanted : IsListed o os → is_required o ≡ true → is_some (given o words) ≡ true

given_there : (o : CommandOption) (rs : List Row) (s : Option Text) → Holds o rs s → is_given (id_of o) rs ≡ true
    → is_some s ≡ true
given_there o rs None h e = sym (ap (λ r. option_map_or (λ (x : Row). explicit_source x.source) r false) h.0) ∙ e
given_there o rs (Some v) h e = refl

-- where no step of the parse fails, the row of each option has what the words give it, and each that is required is
-- given
pub leaf_reads : (name : Text) (os : List CommandOption) (words : List Text)
    → level_fault (leaf_done name os) [] nothing_held words false [] ≡ []
    → (o : CommandOption) → Reads os o words (rows_after (done_rules os) [] words)
leaf_reads name os words f o =
    let end = walk_end os (at_word (idle_held [] None) idle) words in
    let a = or_nil (walk_fault (leaf_done name os) [] (at_word (idle_held [] None) idle) words) _ f in
    let b = or_nil (settle_fault (done_rules os) false end) _ a.1 in
    let d = or_nil (defaults_fault (settled (done_rules os) end).rows (done_rules os)) _ b.1 in
    let holds : Holds o (settled (done_rules os) end).rows (given o words) =
    (walks name os o words).0 [] None None (λ _. (refl, tt)) a.0 b.0 in
    let done : Holds o (finished (done_rules os) end) (given o words) =
    subst (λ rs. Holds o rs (given o words)) (sym (no_default os (settled (done_rules os) end).rows)) holds in
    record {
      holds = done;
      wanted =
          λ is needed. given_there o (finished (done_rules os) end) (given o words) done
          (wanted o os (finished (done_rules os) end) is needed (missing_nil _ d.1));
    }
