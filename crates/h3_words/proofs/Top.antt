-- The whole command line: the first word names a command, whose words follow.
use Rattle.std.proofs.Common.{◌≡◌, ◌∙◌, ◌++◌, Bool, cond, true, false, refl, sym, ap, List, [], ◌∷◌, map, drop, Option, Some, None, is_some, codes, append_assoc, append-nil}
use Rattle.std.specs.Prelude.{option_map, find, fold}
use Rattle.std.specs.Str.{bytes_eq}
use Rattle.std.proofs.lemmas.Slice.Eq.{bytes_eq-Decides}
use Rattle.clap.specs.Walk.{Held, Names, Step, Text, Walk, after_step, answers_to, arg_by_id, idle, nothing_held, subcommand_or_other, walk, walked}
use Rattle.clap.specs.Simple.{App, Shape, entered, label_of, names_of, new_shape}
use Rattle.clap.specs.Kinds.{Kinds, or_else}
use Rattle.clap.specs.Faults.{built_fault, defaults_fault, entered_fault, fault_of, is_simple_and_free, level_fault, other_fault, settle_fault, step_fault, walk_fault}
use Rattle.clap.specs.declared.error.kind.ErrorKind.TheVariants as kind
use Rattle.h3_words.specs.Commands.{commands, app, word_of, options_of}
use Rattle.h3_words.specs.Options.{id_of}
use Rattle.h3_words.proofs.Leaf.{Turn, alone, attached, dashes, other, at_word, dash_turn, idle_held, leaf_done}
use Rattle.h3_words.proofs.OptionRules.{cons_nil, done_rule, done_rules, or_false, or_nil}
use Rattle.h3_words.specs.declared.options.CommandOption.{CommandOption}
use Rattle.h3_words.specs.declared.options.CommandOption.TheVariants.{Cell}
use Rattle.h3_requests.specs.declared.command.Command.{Command}

-- the command as `clap` completes it
abbrev pub leaf : Command → Shape
leaf k = leaf_done (word_of k) (options_of k)

-- the command line without its commands, as `clap` completes it
abbrev pub top_done : Shape
top_done =
    record (new_shape (codes "h3")) {
      rules = done_rules [];
      subcommand_required = true;
      disable_help_subcommand = true;
      is_leaf = false;
      is_built = true;
    }

-- the command line with these commands, as `clap` completes it
abbrev pub app_done : List Command → App
app_done ks = record { top = top_done; subs = map leaf ks }

pub app_is_simple : is_simple_and_free app ≡ true
app_is_simple = refl

-- ---- the first word

-- what a search for the word among the commands finds
data Named (ks : List Command) (word : Text) : Option (Text × List Text) → Type 0 where
  is_name : (k : Command) → bytes_eq (word_of k) word ≡ true → Named ks word (Some (label_of (leaf k)))
  no_name : Named ks word None

named_later : (word : Text) (x : Command) (ks : List Command) (r : Option (Text × List Text)) → Named ks word r
    → Named (x ∷ ks) word r
named_later word x ks _ (is_name k same) = is_name k same
named_later word x ks _ no_name = no_name

named_step : (word : Text) (x : Command) (ks : List Command) (r : Option (Text × List Text)) → Named ks word r
    → (b : Bool) → answers_to word (label_of (leaf x)) ≡ b
    → Named (x ∷ ks) word (cond b (Some (label_of (leaf x))) r)
named_step word x ks r later true e = is_name x (sym (or_false (bytes_eq (word_of x) word)) ∙ e)
named_step word x ks r later false e = named_later word x ks r later

named_in : (word : Text) (ks : List Command) → Named ks word (find (answers_to word) (names_of (app_done ks)))
named_in word [] = no_name
named_in word (x ∷ ks) = named_step word x ks _ (named_in word ks) (answers_to word (label_of (leaf x))) refl

-- ---- the words after it

-- the walk that met a command, with the words after it
abbrev pub stopped_at : Text → List Text → Walk
stopped_at name words = record (at_word (idle_held [] None) idle) { stopped = Some (name, words) }

pub keeps_stop : (names : Names) (name : Text) (before words : List Text)
    → fold (walked (done_rules []) names) (stopped_at name before) words ≡ stopped_at name (before ++ words)
unfolding walked
keeps_stop names name before [] = ap (stopped_at name) (sym (append-nil before))
keeps_stop names name before (x ∷ words) =
    keeps_stop names name (before ++ x ∷ []) words ∙ ap (stopped_at name) (append_assoc before (x ∷ []) words)

no_option_at_top : (q : CommandOption) → arg_by_id (done_rules []) (id_of q) ≡ Some (done_rule q) → ⊥
no_option_at_top Cell e = cc
no_option_at_top q e = cc

-- the words name a command
abbrev pub Enters : List Text → Type 0
Enters words = (k : Command) × (rest : List Text) × (words ≡ word_of k ∷ rest)

-- a level that enters no command fails
missing : (ks : List Command) (words : List Text)
    → level_fault top_done (names_of (app_done ks)) nothing_held words false [] ≡ [] → ⊥
missing ks words f =
    let names = names_of (app_done ks) in
    let end = (walk (done_rules []) names nothing_held words).held in
    let a = or_nil (walk_fault top_done names (at_word nothing_held idle) words) _ f in
    let b = or_nil (settle_fault (done_rules []) false end) _ a.1 in
    let d = or_nil (defaults_fault _ (done_rules [])) _ b.1 in
    cons_nil kind.MissingSubcommand [] d.1

trailing_top : (ks : List Command) (word : Text) (rest : List Text)
    → walk_fault top_done (names_of (app_done ks)) (record (at_word (idle_held [] None) idle) { is_trailing = true })
    (word ∷ rest)
    ≡ []
    → ⊥
unfolding walk_fault
trailing_top ks word rest f = cons_nil kind.UnknownArgument (kind.InvalidSubcommand ∷ []) f

none_case : (ks : List Command) (word : Text) (rest : List Text) (m : Held × Step)
    → Turn [] Cell word idle (idle_held [] None) m
    → step_fault top_done 1 m.0 m.1 ≡ []
    → walk_fault top_done (names_of (app_done ks))
    (after_step (done_rules []) word (at_word (idle_held [] None) idle) m.0 m.1) rest
    ≡ []
    → ((fold (walked (done_rules []) (names_of (app_done ks)))
    (after_step (done_rules []) word (at_word (idle_held [] None) idle) m.0 m.1) rest).stopped ≡ None → ⊥)
    → ⊥
none_case ks word rest _ (attached q v vs written by_id settles uses is) step f enters = no_option_at_top q by_id
none_case ks word rest _ (alone q plain by_id settles is) step f enters = no_option_at_top q by_id
none_case ks word [] _ (dashes is) step f enters = enters refl
none_case ks word (x ∷ rest) _ (dashes is) step f enters = trailing_top ks x rest f
none_case ks word rest _ (other is) step f enters = cons_nil kind.UnknownArgument (kind.InvalidSubcommand ∷ []) step

-- what the first word does
abbrev pub first_met : Text → Option (Text × List Text) → Held × Step
first_met word r = subcommand_or_other (done_rules []) (option_map (λ s. s.0) r) idle 1 word (idle_held [] None)

-- the walk after the first word
abbrev pub first_state : Text → Option (Text × List Text) → Walk
first_state word r =
    after_step (done_rules []) word (at_word (idle_held [] None) idle) (first_met word r).0 (first_met word r).1

stop_is : (ks : List Command) (word : Text) (rest : List Text) (r : Option (Text × List Text))
    → find (answers_to word) (names_of (app_done ks)) ≡ r
    → (walk (done_rules []) (names_of (app_done ks)) nothing_held (word ∷ rest)).stopped
    ≡ (fold (walked (done_rules []) (names_of (app_done ks))) (first_state word r) rest).stopped
unfolding walked
stop_is ks word rest r e =
    ap (λ x. (fold (walked (done_rules []) (names_of (app_done ks))) (first_state word x) rest).stopped) e

-- the kinds of the first step that fails at the top
abbrev level_at : List Command → List Text → Option (Text × List Text) → Kinds
level_at ks words stop =
    level_fault top_done (names_of (app_done ks)) nothing_held words (is_some (entered (app_done ks) stop))
    (entered_fault (app_done ks) stop)

first_fault : (ks : List Command) (word : Text) (rest : List Text) (r : Option (Text × List Text))
    → find (answers_to word) (names_of (app_done ks)) ≡ r
    → walk_fault top_done (names_of (app_done ks)) (at_word (idle_held [] None) idle) (word ∷ rest) ≡ []
    → (other_fault top_done (option_map (λ s. s.0) r) word (idle_held [] None) ≡ [])
    × (step_fault top_done 1 (first_met word r).0 (first_met word r).1 ≡ [])
    × (walk_fault top_done (names_of (app_done ks)) (first_state word r) rest ≡ [])
unfolding walk_fault walked
first_fault ks word rest r e f =
    let g : or_else (or_else (other_fault top_done (option_map (λ s. s.0) r) word (idle_held [] None))
    (step_fault top_done 1 (first_met word r).0 (first_met word r).1))
    (walk_fault top_done (names_of (app_done ks)) (first_state word r) rest) ≡ [] =
    sym (ap (λ x. or_else (or_else (other_fault top_done (option_map (λ s. s.0) x) word (idle_held [] None))
    (step_fault top_done 1 (first_met word x).0 (first_met word x).1))
    (walk_fault top_done (names_of (app_done ks)) (first_state word x) rest)) e) ∙ f in
    let one = or_nil _ _ g in
    let two = or_nil _ _ one.0 in
    (two.0, two.1, one.1)

first_word : (ks : List Command) (word : Text) (rest : List Text) (r : Option (Text × List Text)) → Named ks word r
    → find (answers_to word) (names_of (app_done ks)) ≡ r
    → level_at ks (word ∷ rest) (walk (done_rules []) (names_of (app_done ks)) nothing_held (word ∷ rest)).stopped ≡ []
    → Enters (word ∷ rest)
first_word ks word rest _ (is_name k same) e f =
    (k, rest, ap (λ x. x ∷ rest) (sym ((bytes_eq-Decides (word_of k) word).0 same)))
first_word ks word rest _ no_name e f =
    let faults = first_fault ks word rest None e (or_nil _ _ f).0 in
    absurd (none_case ks word rest (first_met word None)
    (dash_turn [] Cell word idle [] None (bytes_eq word (45 ∷ 45 ∷ [])) refl faults.0) faults.1 faults.2
    (λ none. missing ks (word ∷ rest) (sym (ap (level_at ks (word ∷ rest)) (stop_is ks word rest None e ∙ none)) ∙ f)))

enters : (ks : List Command) (words : List Text) → built_fault (app_done ks) nothing_held words ≡ [] → Enters words
enters ks [] f = absurd (missing ks [] f)
enters ks (word ∷ rest) f = first_word ks word rest _ (named_in word ks) refl f

-- where no step fails, the words name a command
pub app_enters : (words : List Text) → fault_of app words ≡ [] → Enters (drop 1 words)
app_enters words f = enters commands (drop 1 words) f
