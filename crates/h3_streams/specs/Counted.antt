-- What is known of a `CountedReader`.
use Rattle.std.specs.Prelude.{ℕ, ◌≡◌}
use Rattle.std.specs.Borrow.{MutBor}
use Rattle.h3_streams.specs.declared.counted.CountedReader.{CountedReader}

module _ {R : Type 0} where
  -- source_of r: the source of a `CountedReader`, as it stands
  abbrev pub source_of : CountedReader R → R
  source_of r = r.source.now

  -- reads_allowed r: how many reads are still allowed
  abbrev pub reads_allowed : CountedReader R → ℕ
  reads_allowed r = r.reads_left

  -- IsOver r source: it reads what the reference refers to
  abbrev pub IsOver : CountedReader R → MutBor R → Type 0
  IsOver r source = r.source.ghost_name ≡ source.ghost_name

  -- KeepsSource old new: it reads the same source as before
  abbrev pub KeepsSource : CountedReader R → CountedReader R → Type 0
  KeepsSource old new = new.source.ghost_name ≡ old.source.ghost_name
