use Rattle.std.specs.Prelude.{All, IfSome}
use Rattle.h3_table.specs.Links.{IsLink}
use Rattle.h3_table.proofs.SlotLaws.{Kept}
use Rattle.h3_table.proofs.format_two.keep.Given as goal

abbrev pub invariant-loop-digit : goal.invariant-loop-digit
invariant-loop-digit l = Kept l.numbers l.digit l.initial.slots l.slots
    × (All (λ slot. IfSome slot IsLink) l.initial.slots → All (λ slot. IfSome slot IsLink) l.slots)
