use Rattle.std.proofs.Common.{◌≡◌, ◌-◌, ◌∙◌, arith, rules, get_or}
use Rattle.h3_directions.specs.Direction.{digit_of, directions}
use Rattle.h3_directions.specs.declared.direction.Direction.TheVariants.{K}
use Rattle.h3_table.proofs.SoundLaws.{digit_at}
use Rattle.h3_table.proofs.format_two.keep.Goals as goal

pub loop-digit-preserved : goal.loop-digit-preserved
loop-digit-preserved c =
    let digit : digit_of (get_or directions (c.loop-digit.digit - 1) K) ≡ c.loop-digit.digit =
    digit_at (c.loop-digit.digit - 1) (omega arith) ∙ omega arith in
    rw (rw digit at c.slot_of-slot.ensures.is) (record { long = search rules; each = search rules }, search rules)
