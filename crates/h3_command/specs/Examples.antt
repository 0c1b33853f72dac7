-- The definitions at worked values, by computation.
use Rattle.std.specs.Prelude.{◌≡◌, ℕ, List, [], ◌∷◌, ◌++◌, codes, pos, negsuc, None, Some, Err, refl}
use Rattle.h3_index.specs.Cell.{number_of}
use Rattle.h3_index.specs.CellNumber.{address_in, cell_in}
use Rattle.h3_index.specs.Count.{base_cell, cells_of, cells_up_to, number_below}
use Rattle.h3_index.specs.Descendants.{descendants}
use Rattle.h3_index.specs.Paths.{paths}
use Rattle.h3_index.specs.Text.{parsed_index, text_of}
use Rattle.h3_index.specs.declared.error.H3Error.TheVariants.{CellInvalid, Domain, Failed, Pentagon}
use Rattle.h3_table.specs.Fields.{records_of}
use Rattle.h3_table.specs.Table.{table_fault}
use Rattle.h3_table.specs.Vectors.{test_link}
use Rattle.h3_directions.specs.declared.error.TableError.TheVariants as fault
use Rattle.h3_table.specs.declared.vectors.TestTable.TheVariants.{Plain}
use Rattle.h3_grid.specs.Moves.{moves, ring_moves}
use Rattle.h3_grid.specs.Steps.{candidates, digit_lists, found_sum, step_of}
use Rattle.h3_grid.specs.Walks.{disk, followed}
use Rattle.h3_set.specs.Compacted.{compacted}
use Rattle.h3_lines.specs.declared.run_error.AnswerError.TheVariants.{At}
use Rattle.h3_lines.specs.Answer.{answer_or_error, before, cell_line, refused, table_refused, walked, written}
use Rattle.h3_command.specs.Answer.{answer, request}
use Rattle.h3_command.specs.Answer.Request.{plain}
use Rattle.h3_functions.specs.Walks.{grid_disk_unsafe}
use Rattle.h3_requests.specs.declared.command.IndexFunction.TheVariants as each
use Rattle.h3_requests.specs.declared.command.Command.TheVariants.{ForEach, ForOne, GridDiskUnsafe, UniteCells}

-- ---- answers

truth : answer (ForOne each.IsValidCell (Some 0x85283473fffffff)) [] [] ≡ written (codes "true" ++ 10 ∷ [])
unfolding cell_in address_in number_of
truth = refl

parent : answer (ForOne (each.CellToParent (pos 4)) (Some 0x85283473fffffff)) [] []
    ≡ written (codes "8428347ffffffff" ++ 10 ∷ [])
unfolding cell_in address_in number_of number_below text_of
parent = refl

no_index : answer (ForOne (each.CellToParent (pos 4)) None) [] [] ≡ refused Failed
no_index = refl

-- a list of two cells with a blank line between them, and one with a text that is no index behind a blank line
two_cells : answer (ForEach (each.CellToParent (pos 4)))
    (codes "85283473fffffff" ++ 10 ∷ 32 ∷ 10 ∷ codes "8528340ffffffff") []
    ≡ written (codes "8428347ffffffff" ++ 10 ∷ codes "8428341ffffffff" ++ 10 ∷ [])
unfolding cell_in address_in number_of number_below parsed_index text_of
two_cells = refl

third_line : answer (ForEach each.IsValidCell)
    (codes "85283473fffffff" ++ 10 ∷ 10 ∷ codes "xyz" ++ 10 ∷ codes "85283473fffffff") []
    ≡ record { output = codes "true" ++ 10 ∷ []; ending = Err (At 3 Failed) }
unfolding cell_in address_in number_of parsed_index
third_line = refl

no_cell : (answer (ForEach each.GetResolution) (codes "81087ffffffffff") []).ending ≡ Err (At 1 CellInvalid)
unfolding cell_in address_in number_of parsed_index
no_cell = refl

-- a cell that is listed twice is united; behind a blank line a faulty one is reported with its number, and nothing is
-- written
united : answer UniteCells (codes "8029fffffffffff" ++ 10 ∷ codes "8029fffffffffff") []
    ≡ written (codes "8029fffffffffff" ++ 10 ∷ [])
unfolding cell_in address_in number_of parsed_index text_of compacted cells_up_to cells_of descendants paths
united = refl

not_united : answer UniteCells (codes "85283473fffffff" ++ 10 ∷ 10 ∷ codes "xyz" ++ 10 ∷ codes "85283473fffffff") []
    ≡ record { output = []; ending = Err (At 3 Failed) }
unfolding cell_in address_in number_of parsed_index
not_united = refl

-- ---- walks

-- words, and a line feed
abbrev line : List ℕ → List ℕ
line words = words ++ 10 ∷ []

-- the cells before a step that is refused are written
refused_on_the_way : answer_or_error (walked cell_line) (grid_disk_unsafe (test_link Plain) (base_cell 5) (pos 1))
    ≡ before (line (codes "800bfffffffffff") ++ line (codes "8023fffffffffff") ++ line (codes "8021fffffffffff"))
    (refused Pentagon)
unfolding disk moves ring_moves followed step_of found_sum candidates digit_lists number_of text_of
refused_on_the_way = refl

-- in this order: the index, the table, the radius
no_index_of_origin : request (GridDiskUnsafe None (negsuc 0)) ≡ plain (refused Failed)
no_index_of_origin = refl

no_table : (file : List ℕ) → table_fault (records_of file) ≡ Some (fault.Form 1)
    → answer (GridDiskUnsafe (Some 0x85283473fffffff) (negsuc 0)) [] file ≡ table_refused (fault.Form 1)
unfolding cell_in address_in number_of
no_table file is = rw is refl

no_radius : grid_disk_unsafe (test_link Plain) (base_cell 20) (negsuc 0) ≡ Err Domain
no_radius = refl
