-- What holds of a disk of which no step is refused, beside the number of its cells.
use Rattle.std.specs.Prelude.{◌≡◌, ℕ, List, All}
use Rattle.h3_index.specs.Cell.{Address}
use Rattle.h3_table.specs.Links.{Links}
use Rattle.h3_grid.specs.Chart.{HasStatesOf, IsChart, LeadsAlongPaths}
use Rattle.h3_grid.specs.DiskDistances.{HasDistances}
use Rattle.h3_grid.specs.Laws.{IsChartedInside}

-- IsWholeDisk link c k cells: `IsChartedInside` where all cells are in one base cell, `HasStatesOf`, `IsChart`,
-- `LeadsAlongPaths` and `HasDistances`
--
-- Where the cells of the disk of radius k around c are, if all are in the origin's base cell; that the walk's states,
-- one for each cell, are on these cells; that steps between them lead where the places of the spiral say (chart,
-- paths); and that rings are distances.
pub record IsWholeDisk (link : Links) (c : Address) (k : ℕ) (cells : List (Address × ℕ)) : Type 0 where
  pub inside : All (λ item. item.0.base ≡ c.base) cells → IsChartedInside c k cells
  pub states : HasStatesOf link c k cells
  pub chart : IsChart link c k
  pub paths : LeadsAlongPaths link c k
  pub distances : HasDistances link c k cells
