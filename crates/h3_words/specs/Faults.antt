-- The errors of parsing the words.
use Rattle.std.specs.Prelude.{⊤, ◌≡◌, ◌≢◌, ◌⊎◌, false, List, [], drop}
use Rattle.clap.specs.Words.{IsAmong, Kinds, Text, fault_of}
use Rattle.clap.specs.declared.error.kind.ErrorKind.{ErrorKind}
use Rattle.clap.specs.declared.error.kind.ErrorKind.TheVariants.{DisplayHelp, OutOfMemory}
use Rattle.h3_words.specs.Commands.{app}
use Rattle.h3_words.specs.Given.{given}
use Rattle.h3_words.specs.Rows.{rows_agree}
use Rattle.h3_words.specs.declared.words.ArgsError.{ArgsError}
use Rattle.h3_words.specs.declared.words.ArgsError.TheVariants.{Help, Version, Usage, Memory}

-- what is reported for an error of this kind: help only where help is asked for, an invalid command line only for any
-- other error of the parse, out of memory at any time, and the version for none. Private contracts alone cite it.
abbrev pub IsReportedAs : ErrorKind → ArgsError → Type 0
IsReportedAs kind (Help text) = kind ≡ DisplayHelp
IsReportedAs kind Version = ⊥
IsReportedAs kind (Usage text) = (kind ≢ DisplayHelp) × (kind ≢ OutOfMemory)
IsReportedAs kind Memory = ⊤

-- IsFaultOf kinds fault: what is reported fits the errors that the first step that fails may give
--
-- what is reported where the first step of a parse that fails gives one of these kinds: help only where it may be the
-- kind of help, an invalid command line only where it may be another kind, out of memory at any time, and the version
-- for none
abbrev pub IsFaultOf : Kinds → ArgsError → Type 0
IsFaultOf kinds (Help text) = IsAmong DisplayHelp kinds
IsFaultOf kinds Version = ⊥
IsFaultOf kinds (Usage text) = (kind : ErrorKind) × IsAmong kind kinds × (kind ≢ DisplayHelp)
IsFaultOf kinds Memory = ⊤

-- IsRefusalOf words fault: what is reported fits the words
--
-- it fits the errors that the first step that fails of the parse may give; or it is an invalid command line, no step
-- fails, and the options of rows do not agree
abbrev pub IsRefusalOf : List Text → ArgsError → Type 0
IsRefusalOf words (Usage text) = IsFaultOf (fault_of app words) (Usage text)
    ⊎ ((fault_of app words ≡ []) × (rows_agree (λ o. given o (drop 2 words)) ≡ false))
IsRefusalOf words fault = IsFaultOf (fault_of app words) fault
