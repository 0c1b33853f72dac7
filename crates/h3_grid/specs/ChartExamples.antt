-- What the laws of disks are about: a disk over several base cells of which no step is refused, and links that are not
-- sound, for which they fail.
use Rattle.std.specs.Prelude.{◌≡◌, ℕ, [], ◌∷◌, pos, map, Option, Some, None, refl}
use Rattle.std.proofs.Common.{ap, sym, ◌∙◌, arith}
use Rattle.h3_directions.specs.declared.direction.Direction.TheVariants.{IJ}
use Rattle.h3_table.specs.declared.vectors.TestTable.TheVariants.{Plain, Skew, Twisted}
use Rattle.h3_lattice.specs.Digits.{cell_of}
use Rattle.h3_directions.specs.Eisenstein.{eisenstein}
use Rattle.h3_table.specs.Vectors.{test_link}
use Rattle.h3_grid.specs.Chart.{HasStatesOf, IsChart, IsVisit, disk_states, states_from}
use Rattle.h3_grid.specs.Laws.{WritesCells}
use Rattle.h3_grid.specs.Moves.{moves, ring_moves, ring_places, spiral}
use Rattle.h3_grid.specs.Steps.{State, candidates, digit_lists, found_sum, state, step_of}
use Rattle.h3_grid.specs.Walks.{disk, followed}

-- of this disk, which lies in nineteen base cells, no step is refused: so all that is said of such disks holds of it
disk_of_radius_2 : WritesCells (test_link Plain) (cell_of 30 []) 2
    ((cell_of 30 [], 0) ∷ (cell_of 42 [], 1) ∷ (cell_of 41 [], 1) ∷ (cell_of 29 [], 1) ∷ (cell_of 18 [], 1)
    ∷ (cell_of 19 [], 1) ∷ (cell_of 31 [], 1)
    ∷ (cell_of 43 [], 2) ∷ (cell_of 54 [], 2) ∷ (cell_of 53 [], 2) ∷ (cell_of 52 [], 2) ∷ (cell_of 40 [], 2)
    ∷ (cell_of 28 [], 2) ∷ (cell_of 17 [], 2)
    ∷ (cell_of 6 [], 2) ∷ (cell_of 7 [], 2) ∷ (cell_of 8 [], 2) ∷ (cell_of 20 [], 2) ∷ (cell_of 32 [], 2) ∷ [])
unfolding disk moves ring_moves followed step_of found_sum candidates digit_lists
disk_of_radius_2 = refl

-- over twisted links, the states of a disk: base cells whose frame is turned as often as the origin's have rotation 0
twisted_states : disk_states (test_link Twisted) (cell_of 30 []) 1
    ≡ state (cell_of 30 []) 0 ∷ state (cell_of 42 []) 0 ∷ state (cell_of 41 []) 5 ∷ state (cell_of 29 []) 5
    ∷ state (cell_of 18 []) 0 ∷ state (cell_of 19 []) 1 ∷ state (cell_of 31 []) 1 ∷ []
unfolding disk_states states_from moves ring_moves step_of found_sum candidates digit_lists
twisted_states = refl

-- so these are the states of its cells
twisted_cells : HasStatesOf (test_link Twisted) (cell_of 30 []) 1
    ((cell_of 30 [], 0) ∷ (cell_of 42 [], 1) ∷ (cell_of 41 [], 1) ∷ (cell_of 29 [], 1) ∷ (cell_of 18 [], 1)
    ∷ (cell_of 19 [], 1) ∷ (cell_of 31 [], 1) ∷ [])
twisted_cells = ap (map (λ (s : State). s.cell)) twisted_states

-- over links whose corners do not close, a disk of which no step is refused
skew_disk : WritesCells (test_link Skew) (cell_of 30 []) 1
    ((cell_of 30 [], 0) ∷ (cell_of 42 [], 1) ∷ (cell_of 41 [], 1) ∷ (cell_of 28 [], 1) ∷ (cell_of 17 [], 1)
    ∷ (cell_of 18 [], 1) ∷ (cell_of 31 [], 1) ∷ [])
unfolding disk moves ring_moves followed step_of found_sum candidates digit_lists
skew_disk = refl

-- in its first write the walk is at the place IJ, and yet the step in that direction leads elsewhere
skew_visit : IsVisit (test_link Skew) (cell_of 30 []) 1 (eisenstein (pos 1) (pos 1)) (state (cell_of 42 []) 0)
unfolding spiral ring_places disk_states states_from moves ring_moves step_of found_sum candidates digit_lists
skew_visit = record { index = 1; placed = refl; reached = refl }

skew_origin : IsVisit (test_link Skew) (cell_of 30 []) 1 (eisenstein (pos 0) (pos 0)) (state (cell_of 30 []) 0)
unfolding spiral ring_places disk_states
skew_origin = record { index = 0; placed = refl; reached = refl }

skew_step : step_of (test_link Skew) (state (cell_of 30 []) 0) IJ ≡ Some (state (cell_of 43 []) 0)
unfolding step_of found_sum candidates digit_lists
skew_step = refl

-- so it is no chart
abbrev base_reached : Option State → ℕ
base_reached None = 0
base_reached (Some s) = s.cell.base

skew_is_no_chart : IsChart (test_link Skew) (cell_of 30 []) 1 → ⊥
skew_is_no_chart chart =
    let led : step_of (test_link Skew) (state (cell_of 30 []) 0) IJ ≡ Some (state (cell_of 42 []) 0) =
    chart _ _ (state (cell_of 30 []) 0) (state (cell_of 42 []) 0) IJ skew_origin skew_visit refl in
    let same : 43 ≡ 42 = ap base_reached (sym skew_step ∙ led) in
    omega (arith, same)
