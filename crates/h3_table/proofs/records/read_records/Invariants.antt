use Rattle.std.proofs.Common.{◌≡◌, ◌+◌, ◌-◌, ℕ, List, Some, length}
use Rattle.std.specs.Prelude.{All, IfSome}
use Rattle.csv.specs.Reading.{Ready, default_config, source_of}
use Rattle.csv.specs.declared.reader.Trim.TheVariants as trim
use Rattle.h3_table.specs.Links.{IsLink}
use Rattle.h3_table.proofs.ReadingLaws.{IsRead}
use Rattle.h3_table.proofs.records.read_records.Given as goal

abbrev pub invariant-loop-found : goal.invariant-loop-found
invariant-loop-found l = (l.reader.trim ≡ trim.None) × Ready l.reader × (l.reader.config ≡ default_config)
    × (y : List ℕ) × (source_of (λ s. Some s.now) l.reader ≡ Some y)
    × IsRead l.fn.text l.format l.number l.slots l.reader.state y
    × All (λ slot. IfSome slot IsLink) l.slots

abbrev pub decreases-loop-found : goal.decreases-loop-found
decreases-loop-found l = length l.fn.text + 1 - l.number
