-- The counts and sums of the rows of a list by the ancestors of their cells, as a table of cells, counts and sums.
use Rattle.std.specs.Prelude.{◌≡◌, List, ◌++◌, length, map, sum, codes, ◌+ℤ◌}
use Rattle.h3_index.specs.Cell.{Address, number_of}
use Rattle.h3_index.specs.Text.{text_of}
use Rattle.h3_lines.specs.Answer.{Answer, written}
use Rattle.h3_numbers.specs.Sum.{total}
use Rattle.h3_requests.specs.declared.rows.RowOptions.{RowOptions}
use Rattle.h3_rows.specs.Named.{Entry}
use Rattle.h3_command.specs.AreaSums.{Amount, cells_in, sum_where}
use Rattle.h3_command.specs.Parents.{distinct, is_same, times}
use Rattle.h3_command.specs.SumAnswers.{amounts_among, sum_titles}
use Rattle.h3_command.specs.SumTables.{SumRow, sums_table}

-- parent_sum amounts ancestor: the text of an ancestor, how many of the rows have it, and what their numbers add up to
abbrev pub parent_sum : List Amount → Address → SumRow
parent_sum amounts ancestor =
    record {
      name = text_of (number_of ancestor);
      count = times (cells_in amounts) ancestor;
      units = sum_where (is_same ancestor) amounts;
    }

-- parent_sums amounts: the same of each ancestor, in ascending order
abbrev pub parent_sums : List Amount → List SumRow
parent_sums amounts = map (parent_sum amounts) (distinct (cells_in amounts))

-- parent_sums_answer list rows: how many of the rows of a list have each ancestor, in ascending order, and what their
-- numbers add up to, as a table in the form of the list; the title of the column of ancestors is `cell`
abbrev pub parent_sums_answer : RowOptions → List Entry → Answer
parent_sums_answer list rows =
    written (sums_table list.separator (sum_titles list.has_header (codes "cell") rows)
    (parent_sums (amounts_among list.quotes rows)))

-- ---- a law

-- ParentSumsPrintedAddUp: the counts in the rows of ancestors add up to the number of rows with a cell, and the sums to
-- the sum of the numbers in these; and the sums of two parts of a list add up to those of the whole
pub record ParentSumsPrintedAddUp : Type 0 where
  pub counts : (amounts : List Amount) → sum (map (λ row. row.count) (parent_sums amounts)) ≡ length amounts
  pub sums : (amounts : List Amount)
      → total (map (λ row. row.units) (parent_sums amounts)) ≡ total (map (λ a. a.1) amounts)
  pub in_parts : (cell : Address) (xs ys : List Amount)
      → sum_where (is_same cell) (xs ++ ys) ≡ sum_where (is_same cell) xs +ℤ sum_where (is_same cell) ys
