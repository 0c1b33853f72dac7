-- From a parse that succeeds to what the words ask for.
use Rattle.std.proofs.Common.{◌≡◌, ◌∙◌, Bool, cond, true, false, refl, sym, ap, subst, List, [], ◌∷◌, drop, is_some, Option, Some, None, inl, inr}
use Rattle.std.proofs.Math.Path.{fun_ext}
use Rattle.std.specs.Prelude.{find, IfErr, option_map, option_and_then, Result, Ok, Err, slice_get}
use Rattle.std.specs.List.{list_any}
use Rattle.std.specs.Result.{IsErrAnd}
use Rattle.std.specs.Str.{bytes_eq}
use Rattle.std.proofs.lemmas.Slice.Eq.{bytes_eq-Decides}
use Rattle.clap.specs.Kinds.{HasKind, IsAmong}
use Rattle.clap.specs.Simple.{App, HasMatchesOf, is_simple, subcommand_of, subcommand_rows_of}
use Rattle.clap.specs.Faults.{fault_of, is_simple_and_free}
use Rattle.clap.specs.Values.{kind_of}
use Rattle.clap.specs.Walk.{Row, Text, first_of, rows_of}
use Rattle.clap.proofs.WalkLemmas.{first_value-rows}
use Rattle.clap.proofs.ValueTestLemmas.{accepts-Accepts}
use Rattle.clap.specs.declared.error.Error.{Error}
use Rattle.clap.specs.declared.error.kind.ErrorKind.TheVariants.{DisplayHelp, OutOfMemory}
use Rattle.clap.specs.declared.parser.matches.ArgMatches.{ArgMatches}
use Rattle.clap.specs.declared.parser.matches.Found.{Found}
use Rattle.h3_words.specs.Commands.{Entry, app, app_with, commands, command_of, entry_of, has_option, options_of, word_of}
use Rattle.h3_words.specs.Faults.{IsFaultOf, IsRefusalOf, IsReportedAs}
use Rattle.h3_words.specs.Given.{given}
use Rattle.h3_words.proofs.Uses.{listed_of}
use Rattle.h3_words.specs.Options.{id_of, option_of_file, parser_done}
use Rattle.h3_words.specs.Values.{AreFound, IsAccepted, HasFile, HasValues, AsksFor}
use Rattle.h3_words.specs.declared.words.Words.{Words}
use Rattle.h3_words.specs.declared.words.ArgsError.{ArgsError}
use Rattle.h3_words.specs.declared.words.ArgsError.TheVariants.{Help, Version, Usage, Memory}
use Rattle.h3_words.specs.declared.options.CommandFile.{CommandFile}
use Rattle.h3_words.specs.declared.options.CommandOption.{CommandOption}
use Rattle.h3_requests.specs.declared.command.Command.{Command}
use Rattle.h3_words.proofs.Lexed as lexed
use Rattle.h3_words.proofs.Lexed.{given_same}
use Rattle.h3_words.proofs.Leaf.{Passes, Reads, leaf_reads}
use Rattle.h3_words.proofs.OptionRules.{row_of_option}
use Rattle.h3_words.specs.Rows.{HasTables, Texts, found_texts, rows_agree}
use Rattle.h3_words.specs.declared.options.CommandOption.TheVariants.{Table, Region, Zones}
use Rattle.h3_requests.specs.declared.rows.Tables.{Tables}
use Rattle.h3_words.proofs.Named.{alone_is_free, alone_is_simple, alone_rows, same_fault, whole_fault}
use Rattle.h3_words.proofs.Names.{word_named}
use Rattle.h3_words.proofs.Top.{app_enters, app_is_simple}

pub some_same : {X : Type 0} (x y : X) → Some x ≡ Some y → x ≡ y
some_same x y e = cc

some_none : {X : Type 0} (x : X) → Some x ≡ None → ⊥
some_none x e = cc

-- the word after the program's name is the command's, and the words after it follow
pub names_word : (k : Command) (ws : List Text) → command_of ws ≡ Some k
    → (slice_get ws 1 ≡ Some (word_of k)) × (drop 1 ws ≡ word_of k ∷ drop 2 ws)
names_word k [] e = cc
names_word k (program ∷ []) e = cc
names_word k (program ∷ word ∷ rest) e =
    let same = (bytes_eq-Decides (word_of k) word).0 (find_passes (λ x. bytes_eq (word_of x) word) commands k e) in
    (ap (λ w. Some w) (sym same), ap (λ w. w ∷ rest) (sym same))
  where
    find_passes : {X : Type 0} (p : X → Bool) (xs : List X) (x : X) → find p xs ≡ Some x → p x ≡ true
    find_passes p [] x found = cc
    find_passes p (y ∷ ys) x found = go (p y) refl (find_passes p ys x) found
      where
        go : (b : Bool) → p y ≡ b → (find p ys ≡ Some x → p x ≡ true) → cond b (Some y) (find p ys) ≡ Some x
            → p x ≡ true
        go true hit later found2 = subst (λ z. p z ≡ true) (some_same y x found2) hit
        go false hit later found2 = later found2

-- where no step of the parse fails, the words name a command
pub names_command : (ws : List Text) → fault_of app ws ≡ [] → command_of ws ≡ None → ⊥
names_command ws f none =
    let e = app_enters ws f in
    some_none (entry_of e.0) (sym (word_named (λ x. x) e.0) ∙ ap (option_map entry_of) (sym (ap
    (option_and_then (λ w. find (λ k. bytes_eq (word_of k) w) commands))
    (first_left ws (word_of e.0) e.1 e.2)) ∙ none))
  where
    first_left : (words : List Text) (name : Text) (rest : List Text) → drop 1 words ≡ name ∷ rest
        → slice_get words 1 ≡ Some name
    first_left [] name rest e2 = cc
    first_left (program ∷ words) name rest e2 = ap (λ t. slice_get t 0) e2

-- what `clap` is given is simple, and fails at the words as the whole command line does
pub record Stands (a : App) (ws : List Text) : Type 0 where
  pub simple : is_simple_and_free a ≡ true
  pub fault : fault_of a ws ≡ fault_of app ws

pub stands_whole : (a : App) (ws : List Text) → a ≡ app → Stands a ws
stands_whole a ws is = record { simple = ap is_simple_and_free is ∙ app_is_simple; fault = ap (λ b. fault_of b ws) is }

pub stands_alone : (k : Command) (a : App) (ws : List Text) → command_of ws ≡ Some k → a ≡ app_with (k ∷ [])
    → Stands a ws
stands_alone k a ws named is = record {
  simple = ap is_simple_and_free is ∙ alone_is_free k;
  fault = ap (λ b. fault_of b ws) is ∙ same_fault k ws (drop 2 ws) (names_word k ws named).1;
}

-- the fault that is reported of an error of the parse
pub fault_reported : (a : App) (ws : List Text) (e : Error) → Stands a ws
    → (is_simple_and_free a ≡ true → HasKind (fault_of a ws) e)
    → (f : ArgsError) → IsReportedAs (kind_of e) f → IsFaultOf (fault_of app ws) f
fault_reported a ws e stands kinds f reported =
    go f reported (subst (λ k. HasKind k e) stands.fault (kinds stands.simple))
  where
    go : (f : ArgsError) → IsReportedAs (kind_of e) f → HasKind (fault_of app ws) e → IsFaultOf (fault_of app ws) f
    go (Help text) reported (inl memory) = let bad : OutOfMemory ≡ DisplayHelp = sym memory ∙ reported in cc
    go (Help text) reported (inr among) = subst (λ k. IsAmong k (fault_of app ws)) reported among
    go (Usage text) reported (inl memory) = absurd (reported.1 memory)
    go (Usage text) reported (inr among) = (kind_of e, among, reported.0)
    go Version reported has = absurd reported
    go Memory reported has = tt

-- an error for want of memory refuses any words
pub refused_memory : {T : Type 0} (ws : List Text) (r : Result T ArgsError) → IsErrAnd r (λ f. f ≡ Memory)
    → IfErr r (IsRefusalOf ws)
refused_memory ws (Ok v) bad = absurd bad
refused_memory ws (Err f) is = subst (IsRefusalOf ws) (sym is) tt

pub memory_alone : {T : Type 0} (r : Result T ArgsError) → IsErrAnd r (λ f. f ≡ Memory) → IfErr r (λ f. f ≡ Memory)
memory_alone (Ok v) bad = absurd bad
memory_alone (Err f) is = is

-- where no step of the parse fails, memory was wanted
pub only_memory : (ws : List Text) (f : ArgsError) → IsFaultOf (fault_of app ws) f → fault_of app ws ≡ [] → f ≡ Memory
only_memory ws f fault none = go f (subst (λ k. IsFaultOf k f) none fault)
  where
    go : (f : ArgsError) → IsFaultOf [] f → f ≡ Memory
    go (Help text) bad = absurd bad
    go (Usage text) bad = absurd bad.1
    go Version bad = absurd bad
    go Memory fine = refl

-- where the parse has no fault, the words have none
pub passed : (a : App) (ws : List Text) → Stands a ws → (is_simple_and_free a ≡ true → fault_of a ws ≡ [])
    → fault_of app ws ≡ []
passed a ws stands none = sym stands.fault ∙ none stands.simple

accepted_by : (o : CommandOption) (s : Option Text) → Passes o s → IsAccepted o s
accepted_by o None passes = tt
accepted_by o (Some v) passes = accepts-Accepts false (parser_done o) v passes

first_in : (o : CommandOption) (s : Option Text)
    → option_and_then (λ (x : Row). slice_get x.values 0) (option_map (row_of_option o) s) ≡ s
first_in o None = refl
first_in o (Some v) = refl

reads_found : (k : Command) (rest : List Text) (found : Found) (rows : List Row) → rows_of found ≡ rows
    → ((o : CommandOption) → Reads (options_of k) o rest rows) → AreFound k (λ o. given o rest) found
reads_found k rest found rows same reads o = record {
  same =
      first_value-rows found (id_of o) ∙ ap (first_of (id_of o)) same
      ∙ ap (option_and_then (λ (x : Row). slice_get x.values 0)) (reads o).holds.0
      ∙ first_in o (lexed.given o rest) ∙ sym (given_same o rest);
  accepted = subst (IsAccepted o) (sym (given_same o rest)) (accepted_by o (lexed.given o rest) (reads o).holds.1);
  wanted = λ is needed. ap is_some (given_same o rest) ∙ (reads o).wanted (listed_of (options_of k) o is) needed;
}

-- what a parse of the command's words found is what they give
pub met : (k : Command) (a : App) (ws : List Text) (m : ArgMatches) (found : Found) → command_of ws ≡ Some k
    → a ≡ app_with (k ∷ [])
    → (is_simple_and_free a ≡ true → fault_of a ws ≡ []) → HasMatchesOf a ws m
    → Some (rows_of found) ≡ option_map (λ p. p.1) (subcommand_rows_of m) → AreFound k (λ o. given o (drop 2 ws)) found
met k a ws m found named is none matches rows =
    let at = (names_word k ws named).1 in
    let sub =
    (matches (ap is_simple is ∙ alone_is_simple k)).1 ∙ ap (λ b. subcommand_of b ws) is
    ∙ alone_rows k ws (drop 2 ws) at in
    let passes = sym (whole_fault k ws (drop 2 ws) at) ∙ passed a ws (stands_alone k a ws named is) none in
    reads_found k (drop 2 ws) found _ (some_same _ _ (rows ∙ ap (option_map (λ (p : Text × List Row). p.1)) sub))
    (leaf_reads (word_of k) (options_of k) (drop 2 ws) passes)

-- commands of one entry have the same options, and so the same file
option_alike : (a b : Command) (o : CommandOption) → entry_of a ≡ entry_of b → has_option b o ≡ has_option a o
option_alike a b o same = ap (λ (e : Entry). list_any (λ x. bytes_eq (id_of x) (id_of o)) e.options) (sym same)

file_alike : (text : CommandOption → Option Text) (a b : Command) (file : Option CommandFile) → entry_of a ≡ entry_of b
    → HasFile text a file → HasFile text b file
file_alike text a b None same has =
    (option_alike a b Table same ∙ has.0, option_alike a b Region same ∙ has.1, option_alike a b Zones same ∙ has.2)
file_alike text a b (Some f) same has = (option_alike a b (option_of_file f) same ∙ has.0, has.1)

-- the command that the words name, with its values, is what they ask for
pub asks_for : (k : Command) (ws : List Text) (found : Found) → command_of ws ≡ Some k
    → AreFound k (λ o. given o (drop 2 ws)) found
    → (asked : Words) → entry_of asked.command ≡ entry_of k
    → ((text : CommandOption → Option Text) → AreFound k text found → HasValues text asked.command)
    → ((text : CommandOption → Option Text) → AreFound k text found → HasFile text k asked.file)
    → ((text : CommandOption → Option Text) → AreFound k text found → HasTables text asked.tables) → AsksFor ws asked
asks_for k ws found named are asked is has names rows_are = record {
  command = (names_word k ws named).0 ∙ ap (λ (e : Entry). Some e.word) (sym is);
  values = has (λ o. given o (drop 2 ws)) are;
  file =
      file_alike (λ o. given o (drop 2 ws)) k asked.command asked.file (sym is) (names (λ o. given o (drop 2 ws)) are);
  tables = rows_are (λ o. given o (drop 2 ws)) are;
}

-- ---- the options of rows

-- each option is given the same text in what a parse found as in the words
same_texts : (k : Command) (text : Texts) (found : Found) → AreFound k text found → found_texts found ≡ text
same_texts k text found are = fun_ext (λ o. (are o).same)

-- the options of rows agree in what a parse found as they do in what the words give
pub agree_found : (k : Command) (text : CommandOption → Option Text) (found : Found) → AreFound k text found
    → rows_agree (found_texts found) ≡ rows_agree text
agree_found k text found are = ap rows_agree (same_texts k text found are)

-- options of rows that are what a parse found are what each text says that it found
pub rows_are : (k : Command) (found : Found) (tables : Tables) → rows_agree (found_texts found) ≡ true
    → (rows_agree (found_texts found) ≡ true → ((o : CommandOption) → IsAccepted o (found_texts found o))
    → HasTables (found_texts found) tables)
    → (text : CommandOption → Option Text) → AreFound k text found → HasTables text tables
rows_are k found tables agree has text are =
    let accepted : (o : CommandOption) → IsAccepted o (found_texts found o) =
    λ o. subst (IsAccepted o) (sym (are o).same) (are o).accepted in
    subst (λ t. HasTables t tables) (same_texts k text found are) (has agree accepted)

-- what is reported of the parse is a refusal of the words
pub refused : (ws : List Text) (f : ArgsError) → IsFaultOf (fault_of app ws) f → IsRefusalOf ws f
refused ws (Help text) fault = fault
refused ws (Usage text) fault = inl fault
refused ws Version fault = fault
refused ws Memory fault = fault
