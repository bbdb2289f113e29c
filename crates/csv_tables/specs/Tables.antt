-- What a table is: columns, and rows that have a value for each of them.
use Rattle.std.specs.Prelude.{◌≡◌, ℕ, ℤ, zero, suc, ◌*◌, ◌≤◌, List, [], ◌∷◌, All, Option, None, Some, drop, length, map}
use Rattle.std.specs.Prelude.{option_map, slice_get, slice_index_or, take}
use Rattle.row_values.specs.Columns.{IsSchema}
use Rattle.row_values.specs.Values.{kind_of}
use Rattle.row_values.specs.declared.columns.Column.{Column}
use Rattle.row_values.specs.declared.values.Kind.{Kind}
use Rattle.row_values.specs.declared.values.Kind.TheVariants as kind
use Rattle.row_values.specs.declared.values.Value.{Value}
use Rattle.row_values.specs.declared.values.Value.TheVariants.{Int}
use Rattle.csv_tables.specs.declared.table.TheConstants.{CELL_LIMIT, ROW_LIMIT}

-- what contracts see of a table
pub record TableValue : Type 0 where
  pub schema : List Column
  pub rows : List (List Value)

-- the kinds of the columns, in order
abbrev pub column_kinds : List Column → List Kind
column_kinds schema = map (λ column. column.kind) schema

-- what every table keeps: sound columns, few rows and cells, and in each row a value per column, of that column's kind
pub record IsTable (table : TableValue) : Type 0 where
  pub columns : IsSchema table.schema
  pub few_rows : length table.rows ≤ ROW_LIMIT
  pub few_cells : length table.rows * length table.schema ≤ CELL_LIMIT
  pub fits : All (λ row. map kind_of row ≡ column_kinds table.schema) table.rows

-- the value in this column of a row, where there is one
abbrev pub value_in : Option (List Value) → ℕ → Option Value
value_in None column = None
value_in (Some row) column = slice_get row column

-- the cell in this row and column, both counted from 0
abbrev pub cell_at : TableValue → ℕ → ℕ → Option Value
cell_at table row column = value_in (slice_get table.rows row) column

-- these numbers are the cells of a column, in row order
pub record AreNumbers (table : TableValue) (column : ℕ) (numbers : List ℤ) : Type 0 where
  pub count : length numbers ≡ length table.rows
  pub cells : (row : ℕ) → cell_at table row column ≡ option_map Int (slice_get numbers row)

-- a list for each column, and those of the columns of whole numbers are their cells
pub record ArePacked (table : TableValue) (packed : List (List ℤ)) : Type 0 where
  pub one_each : length packed ≡ length table.schema
  pub numbers : (column : ℕ) → slice_get (column_kinds table.schema) column ≡ Some kind.Int
      → AreNumbers table column (slice_index_or packed column [])

-- a list of cells as so many rows of this width
unfoldable pub rows_of : ℕ → ℕ → List Value → List (List Value)
rows_of zero width cells = []
rows_of (suc count) width cells = take width cells ∷ rows_of count width (drop width cells)

-- how a table is kept: so many rows, and their cells one row after the other
abbrev pub table_of_cells : List Column → ℕ → List Value → TableValue
table_of_cells schema row_count cells = record { schema = schema; rows = rows_of row_count (length schema) cells }

-- the cells fill the rows, and the rows are a table
pub record IsKept (schema : List Column) (row_count : ℕ) (cells : List Value) : Type 0 where
  pub full : length cells ≡ row_count * length schema
  pub sound : IsTable (table_of_cells schema row_count cells)

-- a table beside its packed numbers
pub record IsHeld (schema : List Column) (row_count : ℕ) (cells : List Value) (packed : List (List ℤ)) : Type 0 where
  pub kept : IsKept schema row_count cells
  pub numbers : ArePacked (table_of_cells schema row_count cells) packed
