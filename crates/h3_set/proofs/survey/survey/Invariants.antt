use Rattle.std.proofs.Common.{◌≡◌, ◌≤◌, ◌^◌, true, take}
use Rattle.std.specs.List.{AllWithin}
use Rattle.h3_index.specs.Cell.{IsCell}
use Rattle.h3_set.specs.Coverage.{finest}
use Rattle.h3_set.proofs.OverlapLaws.{Rises}
use Rattle.h3_set.proofs.survey.survey.Given as goal

abbrev pub invariant-loop-cell : goal.invariant-loop-cell
invariant-loop-cell l =
    record {
      is : l.finest ≡ finest (take l.cell-index l.cells);
      small : l.finest ≤ 15;
      valid : AllWithin IsCell l.cells 0 l.cell-index;
      end_small : l.end ≤ 2 ^ 52;
      rise : l.rises ≡ true → Rises l.cells l.cell-index l.end;
    }
