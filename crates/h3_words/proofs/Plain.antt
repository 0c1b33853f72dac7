-- A plain call passes: no step of the parse fails.
use Rattle.std.proofs.Common.{◌≡◌, ◌⊎◌, ◌∙◌, ◌≤◌, ◌+◌, ◌&&◌, ◌||◌, ◌==◌, ◌++◌, ℕ, ℤ, Bool, cond, true, false, not, refl, sym, ap, ap₂, subst, arith, List, [], ◌∷◌, length, drop, Option, Some, None, is_some, inl, inr, true≢false, codes}
use Rattle.std.specs.Char.{encode_utf8}
use Rattle.std.specs.Prelude.{⊤, filter_map, slice_get, slice_index, option_and_then, option_map, unwrap_or, find}
use Rattle.std.specs.List.{list_any}
use Rattle.std.specs.Option.{option_map_or}
use Rattle.std.specs.Str.{bytes_eq, chars}
use Rattle.std.proofs.lemmas.Slice.Eq.{bytes_eq-Decides}
use Rattle.clap.specs.Lexer.{long_of, long_of_rest, short_of, short_of_rest, strip_byte}
use Rattle.std.proofs.lemmas.Bool.{ne_eqb}
use Rattle.clap.specs.ValueTests.{accepts}
use Rattle.clap.proofs.ValueTestLemmas.{Accepts-accepts}
use Rattle.clap.specs.Walk.{finished, nothing_held, Outcome, trailing, attached_value, after_flag, bundle_step, done, flag_met, reacted, used, long_met, long_or_other, option_met, plain, plain_word, short_met, short_or_plain, Held, Row, Rule, Step, Text, Waiting, Walk, after_step, arg_by_id, arg_by_long, arg_by_short, bundle_met, has_long, has_row, has_short, idle, next, option, settled, used_by_id, walked, word_met}
use Rattle.clap.specs.Kinds.{Kinds, or_else}
use Rattle.clap.specs.Values.{refused_kind}
use Rattle.clap.specs.Takes.{is_given}
use Rattle.clap.specs.Facts.{explicit_source}
use Rattle.clap.specs.declared.builder.value_parser.ValueParser.TheVariants.{Signed, String}
use Rattle.clap.specs.declared.error.kind.ErrorKind.TheVariants as kind
use Rattle.h3_words.specs.Commands.{commands, app, word_of, options_of}
use Rattle.h3_words.proofs.Named.{fault_named, first_of_all}
use Rattle.clap.specs.Faults.{react_fault, defaults_fault, fault_of, given_default_fault, level_fault, bundle_fault, bundle_step_fault, flag_word_fault, long_fault, option_fault, short_fault, flags_fault, settle_fault, step_fault, turn_fault, use_fault, walk_fault, word_fault}
use Rattle.h3_words.specs.Call.{IsPlainCall, IsPlainValue, Use, names_for, value_words, words_of}
use Rattle.h3_words.proofs.Uses.{AreUses, IsListed, are_uses, contains, uses_in, uses_in-uses_of}
use Rattle.h3_words.proofs.Lexed.{given, is_long, is_short, named, named_by, spelled}
use Rattle.h3_words.specs.Given as own
use Rattle.h3_words.specs.Given.{given_by}
use Rattle.h3_words.specs.Rows.{rows_agree}
use Rattle.h3_words.specs.Options.{IsWithin, number_from, number_up_to, id_of, is_flag, is_required, long_name, parser_done, short_name}
use Rattle.h3_words.specs.declared.options.CommandOption.{CommandOption}
use Rattle.h3_words.specs.declared.options.CommandOption.TheVariants.{Cell}
use Rattle.h3_words.proofs.Leaf.{Holds, flag_is, short_plain, unnamed, value_is, long_is, mine, no_default, short_is, walks, at_word, idle_held, leaf_done, value_state, walk_end}
use Rattle.h3_words.proofs.OptionRules.{by_flag, rule_as, takes_no_value, takes_value, written_used, Differs, Which, bytes_same, differ, done_rule, done_rules, help_done, longs_differ, or_false, row_of_option, shorts_differ, used_fresh}

-- how a word names an option
data NameForm (q : CommandOption) (word : Text) : Type 0 where
  long_form : (n : Text) → long_of word ≡ Some (
    n,
    None,
  ) → is_long q n ≡ true → has_long help_done n ≡ false → bytes_eq word (45 ∷ 45 ∷ []) ≡ false → NameForm q word
  short_form : (y : ℕ) → long_of word ≡ None → short_of word ≡ Some (y ∷ []) → slice_get (chars (y ∷ [])) 0 ≡ Some y
      → drop (length (encode_utf8 y)) (y ∷ []) ≡ []
      → is_short q y ≡ true → has_short help_done y ≡ false → bytes_eq word (45 ∷ 45 ∷ []) ≡ false → NameForm q word

-- a word of this long name names the option by it
abbrev LongForm : CommandOption → Option Text → Type 0
LongForm q None = ⊤
LongForm q (Some n) =
    (long_of (codes "--" ++ n) ≡ Some (n, None)) × (is_long q n ≡ true) × (has_long help_done n ≡ false)
    × (bytes_eq (codes "--" ++ n) (45 ∷ 45 ∷ []) ≡ false)

-- what a word of a long name is, and what it is to be
abbrev LongFacts : Type 0
LongFacts = Option (Text × Option Text) × Bool × Bool × Bool

abbrev long_facts : CommandOption → Text → LongFacts
long_facts q n =
    (long_of (codes "--" ++ n), is_long q n, has_long help_done n, bytes_eq (codes "--" ++ n) (45 ∷ 45 ∷ []))

abbrev long_wanted : Text → LongFacts
long_wanted n = (Some (n, None), true, false, false)

long_is_wanted : (q : CommandOption) → option_map (long_facts q) (long_name q) ≡ option_map long_wanted (long_name q)
long_is_wanted Cell = refl
long_is_wanted q = refl

some_same : {X : Type 0} (x y : X) → Some x ≡ Some y → x ≡ y
some_same x y e = cc

long_form_of : (q : CommandOption) → LongForm q (long_name q)
long_form_of q = go (long_name q) (long_is_wanted q)
  where
    go : (long : Option Text) → option_map (long_facts q) long ≡ option_map long_wanted long → LongForm q long
    go None e = tt
    go (Some n) e =
        let same : long_facts q n ≡ long_wanted n = some_same _ _ e in (
          ap (λ (t : LongFacts). t.0) same,
          ap (λ (t : LongFacts). t.1) same,
          ap (λ (t : LongFacts). t.2) same,
          ap (λ (t : LongFacts). t.3) same,
        )

-- a word of this short name names the option by it
abbrev ShortForm : CommandOption → Option ℕ → Type 0
ShortForm q None = ⊤
ShortForm q (Some y) =
    (long_of (45 ∷ y ∷ []) ≡ None) × (short_of (45 ∷ y ∷ []) ≡ Some (y ∷ [])) × (slice_get (chars (y ∷ [])) 0 ≡ Some y)
    × (drop (length (encode_utf8 y)) (y ∷ []) ≡ [])
    × (is_short q y ≡ true) × (has_short help_done y ≡ false) × (bytes_eq (45 ∷ y ∷ []) (45 ∷ 45 ∷ []) ≡ false)

-- what a word of a short name is, and what it is to be
abbrev ShortFacts : Type 0
ShortFacts = Option (Text × Option Text) × Option Text × Option ℕ × Text × Bool × Bool × Bool

abbrev short_facts : CommandOption → ℕ → ShortFacts
short_facts q y = (
  long_of (45 ∷ y ∷ []),
  short_of (45 ∷ y ∷ []),
  slice_get (chars (y ∷ [])) 0,
  drop (length (encode_utf8 y)) (y ∷ []),
  is_short q y,
  has_short help_done y,
  bytes_eq (45 ∷ y ∷ []) (45 ∷ 45 ∷ []),
)

abbrev short_wanted : ℕ → ShortFacts
short_wanted y = (None, Some (y ∷ []), Some y, [], true, false, false)

short_is_wanted : (q : CommandOption)
    → option_map (short_facts q) (short_name q) ≡ option_map short_wanted (short_name q)
unfolding chars encode_utf8
short_is_wanted Cell = refl
short_is_wanted q = refl

short_form_of : (q : CommandOption) → ShortForm q (short_name q)
short_form_of q = go (short_name q) (short_is_wanted q)
  where
    go : (short : Option ℕ) → option_map (short_facts q) short ≡ option_map short_wanted short → ShortForm q short
    go None e = tt
    go (Some y) e =
        let same : short_facts q y ≡ short_wanted y = some_same _ _ e in (
          ap (λ (t : ShortFacts). t.0) same,
          ap (λ (t : ShortFacts). t.1) same,
          ap (λ (t : ShortFacts). t.2) same,
          ap (λ (t : ShortFacts). t.3) same,
          ap (λ (t : ShortFacts). t.4) same,
          ap (λ (t : ShortFacts). t.5) same,
          ap (λ (t : ShortFacts). t.6) same,
        )

name_form : (q : CommandOption) (word : Text) → IsListed word (names_for q) → NameForm q word
name_form q word is = go (short_name q) (long_name q) (short_form_of q) (long_form_of q) is
  where
    go : (short : Option ℕ) (long : Option Text) → ShortForm q short → LongForm q long
        → IsListed word (filter_map (λ name. name)
        (option_map (λ c. codes "-" ++ c ∷ []) short ∷ option_map (λ n. codes "--" ++ n) long ∷ []))
        → NameForm q word
    go None None s l e = absurd e
    go None (Some n) s l (inl e) = subst (NameForm q) e (long_form n l.0 l.1 l.2 l.3)
    go None (Some n) s l (inr e) = absurd e
    go (Some y) None s l (inl e) = subst (NameForm q) e (short_form y s.0 s.1 s.2 s.3 s.4 s.5 s.6)
    go (Some y) None s l (inr e) = absurd e
    go (Some y) (Some n) s l (inl e) = subst (NameForm q) e (short_form y s.0 s.1 s.2 s.3 s.4 s.5 s.6)
    go (Some y) (Some n) s l (inr (inl e)) = subst (NameForm q) e (long_form n l.0 l.1 l.2 l.3)
    go (Some y) (Some n) s l (inr (inr e)) = absurd e

-- a search that only q passes finds it
only_found : (p : Rule → Bool) (q : CommandOption) (os : List CommandOption) → IsListed q os → p (done_rule q) ≡ true
    → ((x : CommandOption) → Differs q x → p (done_rule x) ≡ false)
    → find p (done_rules os) ≡ Some (done_rule q)
only_found p q [] none hit misses = absurd none
only_found p q (x ∷ os) is hit misses = go (differ q x) is (only_found p q os)
  where
    go : Which q x → (x ≡ q) ⊎ IsListed q os
        → (IsListed q os → p (done_rule q) ≡ true → ((y : CommandOption) → Differs q y → p (done_rule y) ≡ false)
        → find p (done_rules os) ≡ Some (done_rule q))
        → find p (done_rules (x ∷ os)) ≡ Some (done_rule q)
    go (inl same) is2 later = ap (λ y. cond (p (done_rule y)) (Some (done_rule y)) (find p (done_rules os))) (sym same)
        ∙ ap (λ b. cond b (Some (done_rule q)) (find p (done_rules os))) hit
    go (inr d) (inl same) later = ap (λ y. cond (p (done_rule y)) (Some (done_rule y)) (find p (done_rules os))) same
        ∙ ap (λ b. cond b (Some (done_rule q)) (find p (done_rules os))) hit
    go (inr d) (inr is2) later =
        ap (λ b. cond b (Some (done_rule x)) (find p (done_rules os))) (misses x d) ∙ later is2 hit misses

flip_id : (x w : CommandOption) → Which x w → Differs w x → bytes_eq (id_of x) (id_of w) ≡ false
flip_id x w (inl same) d =
    absurd (true≢false (sym (ap (λ y. bytes_eq (id_of w) (id_of y)) same ∙ bytes_same (id_of w)) ∙ d.0))
flip_id x w (inr d2) d = d2.0

by_id_of : (q : CommandOption) (os : List CommandOption) → IsListed q os
    → arg_by_id (done_rules os) (id_of q) ≡ Some (done_rule q)
by_id_of q os is =
    only_found (λ a. bytes_eq a.id (id_of q)) q os is (bytes_same (id_of q)) (λ x d. flip_id x q (differ x q) d)

by_long_of : (q : CommandOption) (n : Text) (os : List CommandOption) → IsListed q os → is_long q n ≡ true
    → arg_by_long (done_rules os) n ≡ Some (done_rule q)
by_long_of q n os is hit =
    only_found (λ a. not (is_some a.index) && has_long a n) q os is (or_false (is_long q n) ∙ hit)
    (λ x d. or_false (is_long x n) ∙ longs_differ (long_name x) (long_name q) n d.1 hit)

by_short_of : (q : CommandOption) (y : ℕ) (os : List CommandOption) → IsListed q os → is_short q y ≡ true
    → arg_by_short (done_rules os) y ≡ Some (done_rule q)
by_short_of q y os is hit =
    only_found (λ a. not (is_some a.index) && has_short a y) q os is (or_false (is_short q y) ∙ hit)
    (λ x d. or_false (is_short x y) ∙ shorts_differ (short_name x) (short_name q) y d.2 hit)

-- ---- the word that names an option

-- what is held after an option that waits for its value
abbrev waiting_held : List CommandOption → CommandOption → List Row → Option (Text × List Text) → Held
waiting_held os q rows p = record (settled (done_rules os) (idle_held rows p)) { pending = Some (id_of q, []) }

name_fault : (name : Text) (os : List CommandOption) (q : CommandOption) (word : Text) (rows : List Row)
    (p : Option (Text × List Text))
    → is_flag q ≡ false → IsListed q os → NameForm q word
    → settle_fault (done_rules os) false (idle_held rows p) ≡ []
    → word_fault (leaf_done name os) [] false idle word (idle_held rows p) ≡ []
unfolding flags_fault
name_fault name os q word rows p takes is (long_form n e hit none no_dash) settles =
    ap₂ (λ b l. cond b [] (flag_word_fault (done_rules os) false l word (idle_held rows p))) no_dash e
    ∙ ap (λ r. long_fault (done_rules os) false r None (idle_held rows p)) (by_long_of q n os is hit)
    ∙ ap (λ t. cond t (settle_fault (done_rules os) false (idle_held rows p))
    (react_fault (done_rules os) false (done_rule q) [] (idle_held rows p))) (takes_value q takes)
    ∙ settles
name_fault name os q word rows p takes is (short_form y no_long flags first rest hit none no_dash) settles =
    let left : Text = drop (length (encode_utf8 y)) (y ∷ []) in
    let later : Held → Kinds = flags_fault (done_rules os) false 0 left 0 in
    ap₂ (λ b l. cond b [] (flag_word_fault (done_rules os) false l word (idle_held rows p))) no_dash no_long
    ∙ ap (λ o. option_map_or (λ fs. bundle_fault (done_rules os) false fs (idle_held rows p)) o []) flags
    ∙ ap (λ o. bundle_step_fault (done_rules os) false o (y ∷ []) 0 (idle_held rows p)
    (flags_fault (done_rules os) false 0)) first
    ∙ ap (λ r. short_fault (done_rules os) false r left (idle_held rows p) later) (by_short_of q y os is hit)
    ∙ ap (λ t. cond t (option_fault (done_rules os) false (done_rule q) (attached_value left) (idle_held rows p))
    (or_else (react_fault (done_rules os) false (done_rule q) [] (idle_held rows p))
    (later (reacted (done_rules os) (done_rule q) [] (idle_held rows p))))) (takes_value q takes)
    ∙ ap (λ t. option_fault (done_rules os) false (done_rule q) (attached_value t) (idle_held rows p)) rest ∙ settles

name_met : (os : List CommandOption) (q : CommandOption) (word : Text) (rows : List Row) (p : Option (Text × List Text))
    → is_flag q ≡ false → IsListed q os → NameForm q word
    → word_met (done_rules os) [] false idle 1 word (idle_held rows p)
    ≡ (waiting_held os q rows p, next (option (id_of q)))
unfolding bundle_met
name_met os q word rows p takes is (long_form n e hit none no_dash) =
    let c = done_rules os in
    let h = idle_held rows p in
    let step : Held × Outcome → Held × Step = λ m. after_flag c idle word m.0 m.1 in
    ap₂ (λ b l. cond b (h, trailing 1) (long_or_other c idle word l h)) no_dash e
    ∙ ap (λ r. step (long_met c r None h)) (by_long_of q n os is hit)
    ∙ ap (λ t. step (cond t (option_met c (done_rule q) None h) (flag_met c (done_rule q) None h)))
    (takes_value q takes)
name_met os q word rows p takes is (short_form y no_long flags first rest hit none no_dash) =
    let c = done_rules os in
    let h = idle_held rows p in
    let left : Text = drop (length (encode_utf8 y)) (y ∷ []) in
    let later : Held → Held × Outcome = bundle_met c 0 left 0 done in
    let after : Held × Outcome → Held × Step = λ m. after_flag c idle word m.0 m.1 in
    ap₂ (λ b l. cond b (h, trailing 1) (long_or_other c idle word l h)) no_dash no_long
    ∙ ap (λ o. short_or_plain c idle word o h) flags
    ∙ ap (λ o. after (bundle_step c o (y ∷ []) 0 plain h (bundle_met c 0))) first
    ∙ ap (λ r. after (short_met c r left h later)) (by_short_of q y os is hit)
    ∙ ap (λ t. after (cond t (option_met c (done_rule q) (attached_value left) h)
    (later (reacted c (done_rule q) [] h)))) (takes_value q takes)
    ∙ ap (λ t. after (option_met c (done_rule q) (attached_value t) h)) rest

-- ---- the word of a flag

flag_word_passes : (name : Text) (os : List CommandOption) (q : CommandOption) (word : Text) (rows : List Row)
    (p : Option (Text × List Text))
    → is_flag q ≡ true → IsListed q os → NameForm q word
    → settle_fault (done_rules os) false (idle_held rows p) ≡ []
    → use_fault false (done_rule q) [] (settled (done_rules os) (idle_held rows p)).rows ≡ []
    → word_fault (leaf_done name os) [] false idle word (idle_held rows p) ≡ []
flag_word_passes name os q word rows p flag is (long_form n e hit none no_dash) settles fine =
    ap₂ (λ b l. cond b [] (flag_word_fault (done_rules os) false l word (idle_held rows p))) no_dash e
    ∙ ap (λ r. long_fault (done_rules os) false r None (idle_held rows p)) (by_long_of q n os is hit)
    ∙ ap (λ t. cond t (settle_fault (done_rules os) false (idle_held rows p))
    (react_fault (done_rules os) false (done_rule q) [] (idle_held rows p))) (takes_no_value q flag)
    ∙ ap₂ or_else settles fine
flag_word_passes name os q word rows p flag is (short_form y no_long flags first rest hit none no_dash) settles fine =
    absurd (true≢false (sym flag ∙ short_plain q y hit))

flag_word_met : (os : List CommandOption) (q : CommandOption) (word : Text) (rows : List Row)
    (p : Option (Text × List Text))
    → is_flag q ≡ true → IsListed q os → NameForm q word
    → word_met (done_rules os) [] false idle 1 word (idle_held rows p)
    ≡ (reacted (done_rules os) (done_rule q) [] (idle_held rows p), next idle)
flag_word_met os q word rows p flag is (long_form n e hit none no_dash) =
    let c = done_rules os in
    let h = idle_held rows p in
    let step : Held × Outcome → Held × Step = λ m. after_flag c idle word m.0 m.1 in
    ap₂ (λ b l. cond b (h, trailing 1) (long_or_other c idle word l h)) no_dash e
    ∙ ap (λ r. step (long_met c r None h)) (by_long_of q n os is hit)
    ∙ ap (λ t. step (cond t (option_met c (done_rule q) None h) (flag_met c (done_rule q) None h)))
    (takes_no_value q flag)
flag_word_met os q word rows p flag is (short_form y no_long flags first rest hit none no_dash) =
    absurd (true≢false (sym flag ∙ short_plain q y hit))

-- ---- its value

no_dashes : (v : Text) → IsPlainValue v → (long_of v ≡ None) × (short_of v ≡ None) × (bytes_eq v (45 ∷ 45 ∷ []) ≡ false)
no_dashes [] h = absurd h
no_dashes (b ∷ bs) h =
    let f : (b == 45) ≡ false = ne_eqb b 45 h in (
      ap (λ t. option_and_then long_of_rest (option_and_then (strip_byte 45) (cond t (Some bs) None))) f,
      ap (λ t. option_and_then short_of_rest (cond t (Some bs) None)) f,
      go (bytes_eq (b ∷ bs) (45 ∷ 45 ∷ [])) refl,
    )
  where
    go : (t : Bool) → bytes_eq (b ∷ bs) (45 ∷ 45 ∷ []) ≡ t → t ≡ false
    go true e = absurd (h (ap (λ xs. slice_index xs 0) ((bytes_eq-Decides (b ∷ bs) (45 ∷ 45 ∷ [])).0 e)))
    go false e = refl

value_fault : (name : Text) (os : List CommandOption) (id v : Text) (h : Held) → IsPlainValue v
    → word_fault (leaf_done name os) [] false (option id) v h ≡ []
value_fault name os id v h is = let e = no_dashes v is in
    ap₂ (λ b l. cond b [] (flag_word_fault (done_rules os) false l v h)) e.2 e.0
    ∙ ap (λ o. option_map_or (λ fs. bundle_fault (done_rules os) false fs h) o []) e.1

value_met : (os : List CommandOption) (id v : Text) (h : Held) → IsPlainValue v
    → word_met (done_rules os) [] false (option id) 1 v h ≡ plain_word (done_rules os) (option id) v h
value_met os id v h is = let e = no_dashes v is in
    ap₂ (λ b l. cond b (h, trailing 1) (long_or_other (done_rules os) (option id) v l h)) e.2 e.0
    ∙ ap (λ o. short_or_plain (done_rules os) (option id) v o h) e.1

-- ---- the walk

one_word : (name : Text) (os : List CommandOption) (h : Held) (wt : Waiting) (word : Text) (m : Held × Step)
    → word_fault (leaf_done name os) [] false wt word h ≡ []
    → word_met (done_rules os) [] false wt 1 word h ≡ m → step_fault (leaf_done name os) 1 m.0 m.1 ≡ []
    → (turn_fault (leaf_done name os) [] (at_word h wt) word ≡ [])
    × (walked (done_rules os) [] (at_word h wt) word ≡ after_step (done_rules os) word (at_word h wt) m.0 m.1)
unfolding walked
one_word name os h wt word m f e step = (
  ap₂ or_else f (ap (λ (x : Held × Step). step_fault (leaf_done name os) 1 x.0 x.1) e ∙ step),
  ap (λ (x : Held × Step). after_step (done_rules os) word (at_word h wt) x.0 x.1) e,
)

-- no step fails from here on
abbrev Passing : Text → List CommandOption → Walk → List Text → Type 0
Passing name os w words =
    (walk_fault (leaf_done name os) [] w words ≡ []) × (settle_fault (done_rules os) false (walk_end os w words) ≡ [])

passes_on : (name : Text) (os : List CommandOption) (w after : Walk) (word : Text) (rest : List Text)
    → turn_fault (leaf_done name os) [] w word ≡ [] → walked (done_rules os) [] w word ≡ after
    → Passing name os after rest → Passing name os w (word ∷ rest)
unfolding walk_fault
passes_on name os w after word rest turn is passing = (
  ap₂ or_else turn (ap (λ x. walk_fault (leaf_done name os) [] x rest) is ∙ passing.0),
  ap (λ x. settle_fault (done_rules os) false (walk_end os x rest)) is ∙ passing.1,
)

-- each option is used at most once, and not again once it has an entry
abbrev Fresh : List Row → List Use → Type 0
Fresh rows us = (o : CommandOption) → (has_row (id_of o) rows ≡ true → uses_in o us ≡ 0) × (uses_in o us ≤ 1)

not_yet : (rows : List Row) (u : Use) (us : List Use) → Fresh rows (u ∷ us) → has_row (id_of u.option) rows ≡ false
not_yet rows u us fresh = go (has_row (id_of u.option) rows) (fresh u.option).0
  where
    go : (b : Bool) → (b ≡ true → uses_in u.option (u ∷ us) ≡ 0) → b ≡ false
    go true h = let bad : 1 + uses_in u.option us ≡ 0 =
        sym (ap (λ b. cond b 1 0 + uses_in u.option us) (bytes_same (id_of u.option))) ∙ h refl in absurd (omega arith)
    go false h = refl

has_row_added : (id : Text) (rows : List Row) (r : Row)
    → has_row id (rows ++ r ∷ []) ≡ (has_row id rows || bytes_eq r.id id)
has_row_added id [] r = or_false (bytes_eq r.id id)
has_row_added id (x ∷ rows) r = go (bytes_eq x.id id) (has_row_added id rows r)
  where
    go : (b : Bool) → has_row id (rows ++ r ∷ []) ≡ (has_row id rows || bytes_eq r.id id)
        → (b || has_row id (rows ++ r ∷ [])) ≡ ((b || has_row id rows) || bytes_eq r.id id)
    go true e = refl
    go false e = e

fresh_after : (rows : List Row) (u : Use) (us : List Use) (v : Text) → Fresh rows (u ∷ us)
    → Fresh (rows ++ row_of_option u.option v ∷ []) us
fresh_after rows u us v fresh o =
    go (bytes_eq (id_of u.option) (id_of o)) (has_row (id_of o) rows) (fresh o)
    (has_row_added (id_of o) rows (row_of_option u.option v))
  where
    go : (b r : Bool) → (r ≡ true → cond b 1 0 + uses_in o us ≡ 0) × (cond b 1 0 + uses_in o us ≤ 1)
        → has_row (id_of o) (rows ++ row_of_option u.option v ∷ []) ≡ (r || b)
        → (has_row (id_of o) (rows ++ row_of_option u.option v ∷ []) ≡ true → uses_in o us ≡ 0) × (uses_in o us ≤ 1)
    go true r f e = let le : 1 + uses_in o us ≤ 1 = f.1 in (λ _. omega arith, omega arith)
    go false true f e = let none : 0 + uses_in o us ≡ 0 = f.0 refl in (λ _. omega arith, omega arith)
    go false false f e = let le : 0 + uses_in o us ≤ 1 = f.1 in (λ t. absurd (true≢false (sym t ∙ e)), omega arith)

-- a value in the range passes the parser
in_range : (least : ℤ) (most : Option ℤ) (v : Text) → IsWithin least most v
    → accepts false (unwrap_or (option_map (Signed least) most) String) v ≡ true
in_range least None v h = refl
in_range least (Some most) v h = Accepts-accepts false (Signed least most) v h

-- a flag has no number, so that any text passes its parser
no_number_flag : (q : CommandOption) → (is_flag q && is_some (number_up_to q)) ≡ false
no_number_flag Cell = refl
no_number_flag q = refl

flag_accepts : (q : CommandOption) (v : Text) → is_flag q ≡ true → accepts false (parser_done q) v ≡ true
flag_accepts q v e =
    go (number_from q) (number_up_to q) (ap (λ b. b && is_some (number_up_to q)) (sym e) ∙ no_number_flag q)
  where
    go : (least : ℤ) (most : Option ℤ) → is_some most ≡ false
        → accepts false (unwrap_or (option_map (Signed least) most) String) v ≡ true
    go least None none = refl
    go least (Some most) none = absurd (true≢false none)

-- a use of an option that was not used yet, with a value in its range
use_passes : (q : CommandOption) (v : Text) (rows : List Row) → is_flag q ≡ false → has_row (id_of q) rows ≡ false
    → accepts false (parser_done q) v ≡ true → use_fault false (done_rule q) (v ∷ []) rows ≡ []
use_passes q v rows takes fresh fits = ap (λ b. use_fault false (rule_as b q) (v ∷ []) rs) takes
    ∙ ap₂ (λ a b. or_else (cond (a && true) (kind.ArgumentConflict ∷ []) [])
    (or_else (cond b [] (refused_kind (parser_done q) ∷ [])) [])) fresh fits
  where
    rs : List Row
    rs = rows

-- a use of a flag that was not used yet
flag_passes : (q : CommandOption) (rows : List Row) → is_flag q ≡ true → has_row (id_of q) rows ≡ false
    → use_fault false (done_rule q) [] rows ≡ []
flag_passes q rows flag fresh = ap (λ b. use_fault false (rule_as b q) [] rows) flag
    ∙ ap₂ (λ a b. or_else (cond (a && true) (kind.ArgumentConflict ∷ []) [])
    (or_else (cond b [] (refused_kind (parser_done q) ∷ [])) [])) fresh (flag_accepts q (codes "true") flag)

-- what uses do from any state of the walk that nothing waits in
abbrev Walks : Text → List CommandOption → List Use → Type 0
Walks name os us =
    (rows : List Row) (p : Option (Text × List Text)) → settle_fault (done_rules os) false (idle_held rows p) ≡ []
    → Fresh (settled (done_rules os) (idle_held rows p)).rows us → AreUses os us
    → Passing name os (at_word (idle_held rows p) idle) (words_of us)

-- one use, of an option that takes a value or of a flag
use_walks : (name : Text) (os : List CommandOption) (u : Use) (us : List Use) → Walks name os us
    → Walks name os (u ∷ us)
use_walks name os u us later rows p settles fresh fits = go (is_flag u.option) refl
  where
    now : List Row
    now = (settled (done_rules os) (idle_held rows p)).rows

    form : NameForm u.option u.name
    form = name_form u.option u.name fits.0.named

    by_id : arg_by_id (done_rules os) (id_of u.option) ≡ Some (done_rule u.option)
    by_id = by_id_of u.option os fits.0.listed

    new : has_row (id_of u.option) now ≡ false
    new = not_yet now u us fresh

    go : (b : Bool) → is_flag u.option ≡ b
        → Passing name os (at_word (idle_held rows p) idle) (u.name ∷ value_words b u.value (words_of us))
    go true flag =
        let fine = flag_passes u.option now flag new in
        let first = one_word name os (idle_held rows p) idle u.name _
        (flag_word_passes name os u.option u.name rows p flag fits.0.listed form settles fine)
        (flag_word_met os u.option u.name rows p flag fits.0.listed form) refl in
        let rows2 : now ++ row_of_option u.option (codes "true") ∷ [] ≡ used (done_rule u.option) [] now =
        sym (written_used u.option (codes "true") [] (by_flag flag) now ∙ used_fresh u.option (codes "true") now new) in
        let fresh2 = subst (λ r. Fresh r us) rows2 (fresh_after now u us (codes "true") fresh) in
        passes_on name os _ _ u.name (words_of us) first.0 first.1
        (later (used (done_rule u.option) [] now) None refl fresh2 fits.1)
    go false takes =
        let fine =
        use_passes u.option u.value now takes new
        (in_range (number_from u.option) (number_up_to u.option) u.value fits.0.in_range) in
        let first =
        one_word name os (idle_held rows p) idle u.name _
        (name_fault name os u.option u.name rows p takes fits.0.listed form settles)
        (name_met os u.option u.name rows p takes fits.0.listed form) refl in
        let h = idle_held now (Some (id_of u.option, [])) in
        let second =
        one_word name os h (option (id_of u.option)) u.value _
        (value_fault name os (id_of u.option) u.value h fits.0.plain)
        (value_met os (id_of u.option) u.value h fits.0.plain) refl in
        let settles2 : settle_fault (done_rules os) false (idle_held now (Some (id_of u.option, u.value ∷ []))) ≡ [] =
        ap (λ r. option_map_or (λ a. use_fault false a (u.value ∷ []) now) r []) by_id ∙ fine in
        let rows2 : now ++ row_of_option u.option u.value ∷ []
        ≡ used_by_id (arg_by_id (done_rules os) (id_of u.option)) (u.value ∷ []) now =
        sym (ap (λ r. used_by_id r (u.value ∷ []) now) by_id ∙ used_fresh u.option u.value now new) in
        let fresh2 = subst (λ r. Fresh r us) rows2 (fresh_after now u us u.value fresh) in
        passes_on name os _ _ u.name (u.value ∷ words_of us) first.0 first.1
        (passes_on name os _ _ u.value (words_of us) second.0
        (second.1 ∙ value_state os u.option now u.value takes by_id)
        (later now (Some (id_of u.option, u.value ∷ [])) settles2 fresh2 fits.1))

uses_walk : (name : Text) (os : List CommandOption) (us : List Use) → Walks name os us
unfolding walk_fault
uses_walk name os [] rows p settles fresh fits = (refl, settles)
uses_walk name os (u ∷ us) rows p settles fresh fits =
    use_walks name os u us (uses_walk name os us) rows p settles fresh fits

-- ---- after the walk

or_true : (b : Bool) → (b || true) ≡ true
or_true true = refl
or_true false = refl

same_rows : (b : Bool) (rs : List Row) → cond b rs rs ≡ rs
same_rows true rs = refl
same_rows false rs = refl

no_default_fault : (os : List CommandOption) (rs : List Row) → defaults_fault rs (done_rules os) ≡ []
unfolding defaults_fault
no_default_fault [] rs =
    ap (λ b. or_else (cond b [] (given_default_fault help_done help_done.defaults)) [])
    (or_true (has_row (codes "help") rs))
no_default_fault (x ∷ os) rs =
    ap₂ (λ b r. or_else (cond b [] (given_default_fault (done_rule x) [])) (defaults_fault r (done_rules os)))
    (or_true (has_row (id_of x) rs)) (same_rows (has_row (id_of x) rs) rs)
    ∙ no_default_fault os rs

none_missing : (os : List CommandOption) (rs : List Row)
    → ((o : CommandOption) → IsListed o os → is_required o ≡ true → is_given (id_of o) rs ≡ true)
    → list_any (λ a. a.required && not (is_given a.id rs)) (done_rules os) ≡ false
none_missing [] rs given_all = refl
none_missing (x ∷ os) rs given_all =
    ap (λ b. b || list_any (λ a. a.required && not (is_given a.id rs)) (done_rules os)) (go (is_required x) refl)
    ∙ none_missing os rs (λ o is. given_all o (inr is))
  where
    go : (b : Bool) → is_required x ≡ b → (b && not (is_given (id_of x) rs)) ≡ false
    go true needed = ap not (given_all x (inl refl) needed)
    go false needed = refl

-- what a word that names q gives o
abbrev alone_for : {q o : CommandOption} → Bool → Which q o → Option (Option Text)
alone_for true d = mine d (Some (codes "true"))
alone_for false d = mine d None

form_spelled : (o q : CommandOption) (d : Which q o) (word : Text) → NameForm q word → spelled o word ≡ mine d None
form_spelled o q d word (long_form n e hit none no_dash) = long_is o q d word n None e hit
form_spelled o q d word (short_form y no_long flags first rest hit none no_dash) =
    short_is o q d word (y ∷ []) y no_long flags first hit ∙ ap (λ t. mine d (attached_value t)) rest

form_named : (o q : CommandOption) (d : Which q o) (word : Text) → NameForm q word → (b : Bool) → is_flag q ≡ b
    → named o word ≡ alone_for b d
form_named o q d word form true flag = flag_is o q d word flag (form_spelled o q d word form)
form_named o q d word form false takes = value_is o q d word None takes (form_spelled o q d word form)

plain_named : (o : CommandOption) (v : Text) → IsPlainValue v → named o v ≡ None
plain_named o v is = let e = no_dashes v is in unnamed o v (ap₂ (named_by o) e.0 e.1)

given_once : (os : List CommandOption) (o : CommandOption) (us : List Use) → AreUses os us → uses_in o us ≡ 1
    → is_some (given o (words_of us)) ≡ true
given_once os o [] fits once = cc
given_once os o (u ∷ us) fits once =
    go (is_flag u.option) (differ u.option o) (form_named o u.option (differ u.option o) u.name
    (name_form u.option u.name fits.0.named) (is_flag u.option) refl) (given_once os o us fits.1)
  where
    here : (rest : List Text) (later : Option Text) (n : Option (Option Text)) → named o u.name ≡ n
        → is_some (given_by n rest later) ≡ true → is_some (given_by (named o u.name) rest later) ≡ true
    here rest later n e some = ap (λ m. is_some (given_by m rest later)) e ∙ some

    count : (d : Differs u.option o) → uses_in o us ≡ 1
    count d = let e : 0 + uses_in o us ≡ 1 = sym (ap (λ b. cond b 1 0 + uses_in o us) d.0) ∙ once in omega arith

    go : (b : Bool) (d : Which u.option o) → named o u.name ≡ alone_for b d
        → (uses_in o us ≡ 1 → is_some (given o (words_of us)) ≡ true)
        → is_some (given o (u.name ∷ value_words b u.value (words_of us))) ≡ true
    go true (inl same) is later = here (words_of us) (given o (words_of us)) _ is refl
    go false (inl same) is later = here (u.value ∷ words_of us) (given o (u.value ∷ words_of us)) _ is refl
    go true (inr d) is later = here (words_of us) (given o (words_of us)) _ is (later (count d))
    go false (inr d) is later =
        here (u.value ∷ words_of us) (given o (u.value ∷ words_of us)) _ is (ap
        (λ n. is_some (given_by n (words_of us) (given o (words_of us)))) (plain_named o u.value fits.0.plain) ∙ later
        (count d))

some_given : (o : CommandOption) (rs : List Row) (s : Option Text) → is_some s ≡ true → Holds o rs s
    → is_given (id_of o) rs ≡ true
some_given o rs None e h = absurd (true≢false (sym e))
some_given o rs (Some v) e h = ap (λ r. option_map_or (λ (x : Row). explicit_source x.source) r false) h.0

-- the words of a plain call pass their command
pub leaf_passes : (name : Text) (os : List CommandOption) (us : List Use) → AreUses os us
    → ((o : CommandOption) → IsListed o os → is_required o ≡ true → uses_in o us ≡ 1)
    → ((o : CommandOption) → uses_in o us ≤ 1)
    → level_fault (leaf_done name os) [] nothing_held (words_of us) false [] ≡ []
leaf_passes name os us fits once most =
    let words = words_of us in
    let start = at_word (idle_held [] None) idle in
    let end = walk_end os start words in
    let pass : Passing name os start words =
    uses_walk name os us [] None refl (λ o. (λ bad. absurd (true≢false (sym bad)), most o)) fits in
    let holds : (o : CommandOption) → Holds o (settled (done_rules os) end).rows (given o words) =
    λ o. (walks name os o words).0 [] None None (λ _. (refl, tt)) pass.0 pass.1 in
    let done : (o : CommandOption) → Holds o (finished (done_rules os) end) (given o words) =
    λ o. subst (λ rs. Holds o rs (given o words)) (sym (no_default os (settled (done_rules os) end).rows))
    (holds o) in
    let all_given : list_any (λ a. a.required && not (is_given a.id (finished (done_rules os) end))) (done_rules os)
    ≡ false =
    none_missing os (finished (done_rules os) end)
    (λ o is needed. some_given o (finished (done_rules os) end) (given o words)
    (given_once os o us fits (once o is needed)) (done o)) in
    ap₂ or_else pass.0 (ap₂ or_else pass.1 (ap₂ or_else (no_default_fault os (settled (done_rules os) end).rows)
    (ap (λ b. cond b (kind.MissingRequiredArgument ∷ []) []) all_given)))

-- ---- the whole command line

-- where the words are a plain call, no step of the parse fails
pub call_passes : (words : List Text) → IsPlainCall words → fault_of app words ≡ []
call_passes words h =
    let os = options_of h.command in
    let uses = are_uses os h.uses h.uses_options in
    let once : (o : CommandOption) → IsListed o os → is_required o ≡ true → uses_in o h.uses ≡ 1 =
    λ o is needed. uses_in-uses_of o h.uses ∙ h.required o (contains os o is) needed in
    let most : (o : CommandOption) → uses_in o h.uses ≤ 1 =
    λ o. subst (λ n. n ≤ 1) (sym (uses_in-uses_of o h.uses)) (h.once o) in
    ap (fault_of app) h.words_are
    ∙ fault_named commands h.command (words_of h.uses) (first_of_all h.command)
    ∙ leaf_passes (word_of h.command) os h.uses uses once most

-- and the options of rows in it agree
pub call_agrees : (words : List Text) → IsPlainCall words → rows_agree (λ o. own.given o (drop 2 words)) ≡ true
call_agrees words h = ap (λ w. rows_agree (λ o. own.given o (drop 2 w))) h.words_are ∙ h.agree
