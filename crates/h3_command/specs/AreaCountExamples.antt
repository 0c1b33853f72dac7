-- The counts of cells by the areas of a table at worked values, by computation.
use Rattle.std.specs.Prelude.{◌≡◌, Bool, false, true, List, [], ◌∷◌, ◌++◌, codes, Option, None, Some, Err, refl}
use Rattle.std.specs.Fmt.{digits}
use Rattle.h3_index.specs.Cell.{Address, number_of}
use Rattle.h3_index.specs.CellNumber.{address_in, cell_in}
use Rattle.h3_index.specs.Text.{parsed_index}
use Rattle.h3_index.specs.declared.error.H3Error.TheVariants.{DuplicateInput}
use Rattle.h3_lines.specs.Answer.{Answer, written}
use Rattle.h3_lines.specs.declared.run_error.AnswerError.TheVariants.{File}
use Rattle.h3_lines.specs.declared.run_error.CellFile.TheVariants.{Zones}
use Rattle.h3_rows.specs.Areas.{area_cells, area_names}
use Rattle.h3_rows.specs.Named.{Entry, Table}
use Rattle.h3_rows.specs.RowsAnswer.{Form, Named}
use Rattle.h3_command.specs.Answer.{Request, answer_to}
use Rattle.h3_command.specs.Answer.ListRequest.{of_numbered}
use Rattle.h3_command.specs.Answer.Request.{after_areas}
use Rattle.h3_lines.specs.List.{itself}
use Rattle.h3_command.specs.AreaCounts.{area_counts, counts_table}
use Rattle.h3_command.specs.AreaExamples.{commas, in_columns, in_fields, overlapping, p, q, south, trips, worked, x}
use Rattle.h3_command.specs.Rows.{title_or_zone}

-- the counts, after commas and with a header
abbrev headed : List Entry → List Address → Answer
headed entries cells =
    written (counts_table 44 (Some (title_or_zone entries))
    (area_counts [] (area_names true entries) (area_cells true entries) cells))

-- without one, and `-` for none
abbrev headless : List Entry → List Address → Answer
headless entries cells =
    written (counts_table 44 None (area_counts (codes "-") (area_names true entries) (area_cells true entries) cells))

-- a list of rows whose cell is in the column `cell`
abbrev rows : Option Form
rows = Some (commas (Named (codes "cell")) true ([] ∷ []) false)

-- the request of counts of cells in areas
abbrev counted : Bool → Table → Option Form → (List Entry → List Address → Answer) → Request
counted overlapping table form about =
    after_areas overlapping table (λ entries. of_numbered itself form (about entries))

-- each area in the order of its first row, once, and none at last
counts_of_rows : answer_to (counted false (in_columns (codes "zone")) rows headed) trips worked
    ≡ written (codes "zone,count" ++ 10 ∷ codes "north,1" ++ 10 ∷ south ++ codes ",1" ++ 10 ∷ codes ",1" ++ 10 ∷ [])
unfolding digits parsed_index cell_in address_in number_of
counts_of_rows = refl

-- of a bare list, with an area without a cell, by a table without a header
counts_of_lines : answer_to (counted false in_fields None headless) (q ++ 10 ∷ x ++ 10 ∷ q ++ 10 ∷ [])
    (codes "north," ++ p ++ 10 ∷ codes "south," ++ q ++ 10 ∷ [])
    ≡ written (codes "north,0" ++ 10 ∷ codes "south,2" ++ 10 ∷ codes "-,1" ++ 10 ∷ [])
unfolding digits parsed_index cell_in address_in number_of
counts_of_lines = refl

-- no counts where two areas overlap
uncounted : answer_to (counted false (in_columns (codes "zone")) rows headed) trips overlapping
    ≡ record { output = []; ending = Err (File Zones DuplicateInput) }
unfolding parsed_index cell_in address_in number_of
uncounted = refl

-- unless they may: then a cell counts in each of its areas; one that has none counts as such
in_each : answer_to (counted true (in_columns (codes "zone")) rows headed) trips overlapping
    ≡ written (codes "zone,count" ++ 10 ∷ codes "north,1" ++ 10 ∷ south ++ codes ",1" ++ 10 ∷ codes "all,2" ++ 10
    ∷ codes ",1" ++ 10 ∷ [])
unfolding digits parsed_index cell_in address_in number_of
in_each = refl
