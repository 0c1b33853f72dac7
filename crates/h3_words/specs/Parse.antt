-- What the words of a command line parse as.
use Rattle.std.specs.Prelude.{◌≡◌, true, false, List, [], drop, Result, Err, IfOk, IfErr, OnOk}
use Rattle.clap.specs.Words.{Text, fault_of}
use Rattle.h3_words.specs.Call.{IsPlainCall}
use Rattle.h3_words.specs.Commands.{app}
use Rattle.h3_words.specs.Faults.{IsRefusalOf}
use Rattle.h3_words.specs.Given.{given}
use Rattle.h3_words.specs.Rows.{rows_agree}
use Rattle.h3_words.specs.Values.{AsksFor}
use Rattle.h3_words.specs.Version.{asks_version}
use Rattle.h3_words.specs.declared.words.Words.{Words}
use Rattle.h3_words.specs.declared.words.ArgsError.{ArgsError}
use Rattle.h3_words.specs.declared.words.ArgsError.TheVariants.{Memory, Version}

-- ParsesAs words parsed: what words parse as, or why they do not
pub record ParsesAs (words : List Text) (parsed : Result Words ArgsError) : Type 0 where
  pub read : IfOk parsed (AsksFor words)
  pub accepted : OnOk parsed (fault_of app words ≡ [])
  pub agreed : OnOk parsed (rows_agree (λ o. given o (drop 2 words)) ≡ true)
  pub taken : IsPlainCall words → IfErr parsed (λ fault. fault ≡ Memory)
  pub version : asks_version words ≡ true → parsed ≡ Err Version
  pub faults : asks_version words ≡ false → IfErr parsed (IsRefusalOf words)
