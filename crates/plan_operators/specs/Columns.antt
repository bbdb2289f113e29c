-- What is read of a column, by row number and by a combination.
use Rattle.std.specs.Prelude.{ℕ, List, [], Option, slice_get, slice_index_or}
use Rattle.std.specs.Option.{option_map}
use Rattle.row_values.specs.declared.values.Value.{Value}
use Rattle.row_values.specs.declared.values.Value.TheVariants as value
use Rattle.plan_operators.specs.declared.columns.Cell.{Cell}
use Rattle.plan_operators.specs.declared.columns.Cell.TheVariants.{Number, Text}
use Rattle.plan_operators.specs.declared.columns.ColumnCells.{ColumnCells}
use Rattle.plan_operators.specs.declared.columns.ColumnCells.TheVariants.{Numbers, Values}
use Rattle.plan_operators.specs.declared.columns.PlaceColumn.{PlaceColumn}

-- the value of a cell that was read
abbrev pub value_read : Cell → Value
value_read (Number number) = value.Int number
value_read (Text text) = value.Text text.now

-- the cell of a row in a column
abbrev pub cell_read : ColumnCells → ℕ → Option Value
cell_read (Numbers numbers) row = option_map value.Int (slice_get numbers.now row)
cell_read (Values table column) row = slice_get (slice_index_or table.now.rows row []) column

-- the cell that a combination has in a column of a place
abbrev pub cell_seen : PlaceColumn → List ℕ → Option Value
cell_seen column c = cell_read column.cells (slice_index_or c column.place 0)
