-- The words after the name of a command: they are that command's alone, whatever others there are.
use Rattle.std.proofs.Common.{◌≡◌, ◌∙◌, ◌&&◌, Bool, cond, true, false, refl, sym, ap, ap₂, List, [], ◌∷◌, ◌++◌, map, drop, Option, Some, None, is_some, codes}
use Rattle.std.specs.Prelude.{option_map, find, fold}
use Rattle.std.specs.Option.{option_map_or}
use Rattle.std.specs.Str.{bytes_eq}
use Rattle.clap.specs.Walk.{Names, Text, Walk, answers_to, finished, idle, nothing_held, rows_after, settled, stop_after, walk, walked}
use Rattle.clap.specs.Simple.{App, Shape, built, entered, is_simple, label_of, names_of, rows_at, subcommand_of}
use Rattle.clap.specs.Kinds.{Kinds, or_else}
use Rattle.clap.specs.Faults.{built_fault, check_fault, defaults_fault, entered_fault, fault_of, is_simple_and_free, level_fault, other_fault, settle_fault, step_fault, walk_fault}
use Rattle.clap.specs.declared.error.kind.ErrorKind.TheVariants as kind
use Rattle.h3_words.specs.Commands.{app, app_with, commands, options_of, word_of}
use Rattle.h3_requests.specs.declared.command.Command.{Command}
use Rattle.h3_requests.specs.declared.command.Command.TheVariants.{ForEach, ForOne}
use Rattle.h3_requests.specs.declared.command.IndexFunction.TheVariants.{IsValidCell}
use Rattle.h3_words.proofs.Leaf.{at_word, idle_held, leaf_done}
use Rattle.h3_words.proofs.OptionRules.{bytes_same, done_rules, or_false}
use Rattle.h3_words.proofs.Names.{word_named}
use Rattle.h3_words.proofs.Top.{app_done, first_met, first_state, keeps_stop, leaf, stopped_at, top_done}

-- ---- the command is found by its word

-- the first of these commands that has the word of this one is this one
abbrev pub IsFirst : List Command → Command → Type 0
IsFirst ks k = find (λ s. answers_to (word_of k) (label_of s)) (map leaf ks) ≡ Some (leaf k)

-- a search among what a function makes of the items of a list
find_map : {X Y : Type 0} (f : X → Y) (p : Y → Bool) (q : X → Bool) → ((x : X) → p (f x) ≡ q x) → (xs : List X)
    → find p (map f xs) ≡ option_map f (find q xs)
find_map f p q same [] = refl
find_map f p q same (x ∷ xs) = ap₂ (λ b later. cond b (Some (f x)) later) (same x) (find_map f p q same xs) ∙ go (q x)
  where
    go : (b : Bool) → cond b (Some (f x)) (option_map f (find q xs)) ≡ option_map f (cond b (Some x) (find q xs))
    go true = refl
    go false = refl

pub first_of_all : (k : Command) → IsFirst commands k
first_of_all k =
    find_map leaf (λ s. answers_to (word_of k) (label_of s)) (λ x. bytes_eq (word_of x) (word_of k))
    (λ x. or_false (bytes_eq (word_of x) (word_of k))) commands
    ∙ word_named (λ e. leaf_done e.word e.options) k

pub first_alone : (k : Command) → IsFirst (k ∷ []) k
first_alone k =
    ap (λ b. cond b (Some (leaf k)) None) (or_false (bytes_eq (word_of k) (word_of k)) ∙ bytes_same (word_of k))

label_first : (ks : List Command) (k : Command) → IsFirst ks k
    → find (answers_to (word_of k)) (names_of (app_done ks)) ≡ Some (label_of (leaf k))
label_first ks k first =
    find_map label_of (answers_to (word_of k)) (λ s. answers_to (word_of k) (label_of s)) (λ s. refl) (map leaf ks)
    ∙ ap (option_map label_of) first

-- ---- the walk stops at its word

and_false : (b : Bool) → (b && false) ≡ false
and_false true = refl
and_false false = refl

or_else_nil : (a : Kinds) → or_else a [] ≡ a
or_else_nil [] = refl
or_else_nil (k ∷ ks) = refl

stopped_passes : (names : Names) (name : Text) (before words : List Text)
    → walk_fault top_done names (stopped_at name before) words ≡ []
unfolding walk_fault walked
stopped_passes names name before [] = refl
stopped_passes names name before (x ∷ words) = stopped_passes names name (before ++ x ∷ []) words

top_turn : (ks : List Command) (k : Command) (rest : List Text) → IsFirst ks k
    → (walk_fault top_done (names_of (app_done ks)) (at_word nothing_held idle) (word_of k ∷ rest) ≡ [])
    × (walk (done_rules []) (names_of (app_done ks)) nothing_held (word_of k ∷ rest) ≡ stopped_at (word_of k) rest)
unfolding walk_fault walked
top_turn ks k rest first = (
  ap (λ r. or_else (or_else (other_fault top_done (option_map (λ s. s.0) r) (word_of k) (idle_held [] None))
      (step_fault top_done 1 (first_met (word_of k) r).0 (first_met (word_of k) r).1))
      (walk_fault top_done (names_of (app_done ks)) (first_state (word_of k) r) rest)) (label_first ks k first)
      ∙ ap (λ b. or_else (or_else (cond b (kind.DisplayHelp ∷ kind.InvalidSubcommand ∷ []) []) [])
      (walk_fault top_done (names_of (app_done ks)) (stopped_at (word_of k) []) rest)) (and_false
      (bytes_eq (word_of k) (codes "help")))
      ∙ stopped_passes (names_of (app_done ks)) (word_of k) [] rest,
  ap (λ r. fold (walked (done_rules []) (names_of (app_done ks))) (first_state (word_of k) r) rest)
      (label_first ks k first)
      ∙ keeps_stop (names_of (app_done ks)) (word_of k) [] rest,
)

-- the parse fails as that of the command's words fails
pub fault_named : (ks : List Command) (k : Command) (rest : List Text) → IsFirst ks k
    → built_fault (app_done ks) nothing_held (word_of k ∷ rest) ≡ level_fault (leaf k) [] nothing_held rest false []
unfolding defaults_fault
fault_named ks k rest first =
    let a = app_done ks in
    let names = names_of a in
    let turn = top_turn ks k rest first in
    ap₂ or_else turn.0
    (ap (λ (w : Walk). or_else (entered_fault a w.stopped)
    (or_else (settle_fault (done_rules []) false w.held)
    (or_else (defaults_fault (settled (done_rules []) w.held).rows (done_rules []))
    (check_fault top_done (finished (done_rules []) w.held) (is_some (entered a w.stopped)))))) turn.1
    ∙ ap (λ (r : Option Shape). or_else (option_map_or (λ s. level_fault s [] nothing_held rest false []) r [])
    (check_fault top_done [] (is_some (option_map (λ s. rows_at s rest) r)))) first
    ∙ or_else_nil (level_fault (leaf k) [] nothing_held rest false []))

-- the parse has the command's rows
rows_named : (ks : List Command) (k : Command) (rest : List Text) → IsFirst ks k
    → entered (app_done ks) (stop_after (done_rules []) (names_of (app_done ks)) (word_of k ∷ rest))
    ≡ Some (word_of k, rows_after (done_rules (options_of k)) [] rest)
rows_named ks k rest first =
    ap (λ (w : Walk). entered (app_done ks) w.stopped) (top_turn ks k rest first).1
    ∙ ap (option_map (λ s. rows_at s rest)) first

-- ---- the command line that has this command alone

-- the second clause is checked at each other command
built_alone : (k : Command) → built (app_with (k ∷ [])) ≡ app_done (k ∷ [])
built_alone (ForOne IsValidCell index) = refl
built_alone (ForEach IsValidCell) = refl
built_alone k = refl

pub alone_is_simple : (k : Command) → is_simple (app_with (k ∷ [])) ≡ true
alone_is_simple (ForOne IsValidCell index) = refl
alone_is_simple (ForEach IsValidCell) = refl
alone_is_simple k = refl

pub alone_is_free : (k : Command) → is_simple_and_free (app_with (k ∷ [])) ≡ true
alone_is_free (ForOne IsValidCell index) = refl
alone_is_free (ForEach IsValidCell) = refl
alone_is_free k = refl

-- its parse fails as that of the command's words fails
alone_fault : (k : Command) (words rest : List Text) → drop 1 words ≡ word_of k ∷ rest
    → fault_of (app_with (k ∷ [])) words ≡ level_fault (leaf k) [] nothing_held rest false []
alone_fault k words rest e =
    ap (λ a. built_fault a nothing_held (drop 1 words)) (built_alone k)
    ∙ ap (built_fault (app_done (k ∷ [])) nothing_held) e ∙ fault_named (k ∷ []) k rest (first_alone k)

-- so does that of the whole command line
pub whole_fault : (k : Command) (words rest : List Text) → drop 1 words ≡ word_of k ∷ rest
    → fault_of app words ≡ level_fault (leaf k) [] nothing_held rest false []
whole_fault k words rest e =
    ap (built_fault (app_done commands) nothing_held) e ∙ fault_named commands k rest (first_of_all k)

-- words that name the command fail alike in both
pub same_fault : (k : Command) (words rest : List Text) → drop 1 words ≡ word_of k ∷ rest
    → fault_of (app_with (k ∷ [])) words ≡ fault_of app words
same_fault k words rest e = alone_fault k words rest e ∙ sym (whole_fault k words rest e)

-- its parse has the command's rows
pub alone_rows : (k : Command) (words rest : List Text) → drop 1 words ≡ word_of k ∷ rest
    → subcommand_of (app_with (k ∷ [])) words ≡ Some (word_of k, rows_after (done_rules (options_of k)) [] rest)
alone_rows k words rest e =
    ap (λ (a : App). entered a (stop_after a.top.rules (names_of a) (drop 1 words))) (built_alone k)
    ∙ ap (λ w. entered (app_done (k ∷ [])) (stop_after (done_rules []) (names_of (app_done (k ∷ []))) w)) e
    ∙ rows_named (k ∷ []) k rest (first_alone k)
