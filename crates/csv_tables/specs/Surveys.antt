-- What a first reading of the data rows finds.
use Rattle.std.specs.Prelude.{◌≡◌, ℕ, suc, ◌+◌, ◌*◌, ◌<◌, ◌≤◌, Bool, true, false, ◌&&◌, List, [], ◌∷◌, length, map}
use Rattle.std.specs.Prelude.{replicate, slice_index_or, option_map, None, min, take}
use Rattle.std.specs.Option.{option_or}
use Rattle.csv_tables.specs.Cells.{all_numbers, bad_column, field}
use Rattle.csv_tables.specs.Numbers.{is_whole_number}
use Rattle.csv_tables.specs.Headers.{heading_of}
use Rattle.csv_tables.specs.Reading.{records_of}
use Rattle.csv_tables.specs.Spelled.{bad_cell, faults_of, first_of}
use Rattle.row_values.specs.declared.columns.TheConstants.{COLUMN_LIMIT}
use Rattle.csv_tables.specs.declared.faults.TableFault.TheVariants.{BadCell}
use Rattle.csv_tables.specs.declared.header.Heading.{Heading}
use Rattle.csv_tables.specs.declared.survey.Survey.{Survey}
use Rattle.csv_tables.specs.declared.table.TheConstants.{CELL_LIMIT, ROW_LIMIT}

-- which columns, from this one on, still hold nothing but numbers after a row
abbrev pub numbers_after : ℕ → List Bool → List (List ℕ) → List Bool
numbers_after column [] row = []
numbers_after column (so_far ∷ numbers) row =
    (so_far && is_whole_number (field row column)) ∷ numbers_after (suc column) numbers row

-- a survey of no row, for so many columns
pub record IsNew (column_count : ℕ) (survey : Survey) : Type 0 where
  pub row_count : survey.row_count ≡ 0
  pub bad_cell : survey.bad_cell ≡ None
  pub numbers : survey.numbers.items ≡ replicate column_count true

-- a survey notes a row more
pub record Notes (headings : List Heading) (row : List (List ℕ)) (old new : Survey) : Type 0 where
  pub row_count : new.row_count ≡ old.row_count + 1
  pub bad_cell : new.bad_cell
      ≡ option_or old.bad_cell (option_map (λ column. (new.row_count, column)) (bad_column 0 headings row))
  pub numbers : new.numbers.items ≡ numbers_after 0 old.numbers.items row

-- a survey of these rows
pub record IsSurvey (headings : List Heading) (rows : List (List (List ℕ))) (survey : Survey) : Type 0 where
  pub row_count : survey.row_count ≡ length rows
  pub bad_cell : survey.bad_cell ≡ bad_cell 1 headings rows
  pub one_each : length survey.numbers.items ≡ length headings
  pub numbers : (column : ℕ) → column < length headings
      → slice_index_or survey.numbers.items column false ≡ all_numbers column rows

-- a file whose header and shape have no fault, under these headings: a cell alone may be bad
pub record IsShapedFile (bytes : List ℕ) (headings : List Heading) (row_count : ℕ) : Type 0 where
  pub header : List (List ℕ)
  pub rows : List (List (List ℕ))
  pub reads : records_of bytes ≡ header ∷ rows
  pub headings_are : headings ≡ map heading_of header
  pub counted : row_count ≡ length rows
  pub few_columns : length header ≤ COLUMN_LIMIT
  pub few_rows : length rows ≤ ROW_LIMIT
  pub few_cells : length rows * length header ≤ CELL_LIMIT
  pub first : first_of (faults_of header rows) ≡ option_map (λ at. BadCell at.0 at.1) (bad_cell 1 headings rows)

-- the survey of the first rows of such a file, of one at least where it has one
pub record IsSurveyedFile (bytes : List ℕ) (headings : List Heading) (row_count : ℕ) (survey : Survey) : Type 0 where
  pub shaped : IsShapedFile bytes headings row_count
  pub seen : ℕ
  pub some : min 1 row_count ≤ seen
  pub survey_is : IsSurvey headings (take seen shaped.rows) survey
