-- What is known of a `Streamed`.
use Rattle.std.specs.Prelude.{Bool}
use Rattle.h3_streams.specs.declared.stream.Streamed.{Streamed}

module _ {T : Type 0} where
  -- streamed_inner s: the reader or writer below a `Streamed`
  abbrev pub streamed_inner : Streamed T → T
  streamed_inner s = s.inner

  -- streamed_failed s: a call of it failed
  abbrev pub streamed_failed : Streamed T → Bool
  streamed_failed s = s.failed
