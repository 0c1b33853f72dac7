-- What the builder calls add up to.
use Rattle.std.proofs.Common.{arith, true, false, codes, ◌≡◌, ◌∙◌, ◌<◌, ◌+◌, ◌++◌, ℕ, List, [], ◌∷◌, append-nil, append_assoc, map, length, take, get_or, refl, sym, ap, ap₂}
use Rattle.std.specs.Prelude.{fold}
use Rattle.std.proofs.lemmas.Bool.{ne_eqb}
use Rattle.std.proofs.lemmas.List.{take_more, map-append}
use Rattle.clap.specs.Words.{App, Rule, Text, new_app, with_rule, with_subcommand}
use Rattle.clap.specs.Simple.{on_top}
use Rattle.clap.specs.Walk.{is_empty}
use Rattle.h3_words.specs.Commands.{app_with, leaf_with, shape_for}
use Rattle.h3_words.specs.Options.{rule_for}
use Rattle.h3_requests.specs.declared.command.Command.{Command}
use Rattle.h3_words.specs.declared.options.CommandOption.{CommandOption}

-- a command that stands alone
abbrev pub leaf_app : Text → List CommandOption → App
leaf_app name os = record { top = leaf_with name os; subs = [] }

-- the command line before its first command
abbrev pub bare_app : App
bare_app = on_top (λ s. record s { subcommand_required = true; disable_help_subcommand = true }) (new_app (codes "h3"))

-- the command line with one command more
abbrev pub with_command : App → Command → App
with_command a k = with_subcommand a (shape_for k)

-- the commands that are added one by one are those of the command line
pub all_commands : (ks : List Command) → fold with_command bare_app ks ≡ app_with ks
all_commands ks = more [] ks
  where
    -- one command more
    one : (before : List Command) (k : Command) → with_command (app_with before) k ≡ app_with (before ++ k ∷ [])
    one before k =
        ap₂ (λ leaf subs. record { top = record (app_with []).top { is_leaf = leaf }; subs = subs })
        (some_left before k) (sym (map-append shape_for before (k ∷ [])))
      where
        some_left : (ks2 : List Command) (k2 : Command) → false ≡ is_empty (ks2 ++ k2 ∷ [])
        some_left [] k2 = refl
        some_left (x ∷ ks2) k2 = sym (ne_eqb (length (x ∷ ks2 ++ k2 ∷ [])) 0 (λ e. omega arith))

    more : (before rest : List Command) → fold with_command (app_with before) rest ≡ app_with (before ++ rest)
    more before [] = ap app_with (sym (append-nil before))
    more before (k ∷ rest) =
        ap (λ a. fold with_command a rest) (one before k) ∙ more (before ++ k ∷ []) rest
        ∙ ap app_with (append_assoc before (k ∷ []) rest)

-- a command with these rules
with_rules : Text → List Rule → App
with_rules name rs = record (leaf_app name []) { top = record (leaf_app name []).top { rules = rs } }

-- one option more
pub leaf_more : (name : Text) (os : List CommandOption) (i : ℕ) (d : CommandOption) → i < length os
    → with_rule (leaf_app name (take i os)) (rule_for (get_or os i d)) ≡ leaf_app name (take (i + 1) os)
unfolding with_rules
leaf_more name os i d lt = ap (with_rules name)
    (sym (map-append rule_for (take i os) (get_or os i d ∷ [])) ∙ ap (map rule_for) (sym (take_more os i d lt)))
