use Rattle.std.proofs.Common.{◌≡◌, ◌≤◌, length, take}
use Rattle.h3_c.specs.Lists.{laid_over}
use Rattle.h3_c.specs.Overlapping.{all_areas, area_counts}
use Rattle.h3_c.specs.Starts.{fitting, greatest_place, sizes_of, starts_from}
use Rattle.h3_c.proofs.StartLaws.{total}
use Rattle.h3_c.proofs.overlapping.put_all_areas.Given as goal

abbrev pub invariant-loop-i : goal.invariant-loop-i
invariant-loop-i l = record {
  few : l.fitting ≤ l.i;
  fits : l.fitting ≡ fitting (length l.initial.numbers) (sizes_of (area_counts l.areas (take l.i l.indexes)));
  end : l.end ≡ total (sizes_of (area_counts l.areas (take l.i l.indexes)));
  within : l.end ≤ greatest_place;
  put : l.starts ≡ laid_over (starts_from 0 (sizes_of (area_counts l.areas (take l.i l.indexes)))) l.fn.starts;
  listed : l.numbers ≡ laid_over (all_areas l.areas (take l.i l.indexes)) l.initial.numbers;
}
