-- What lies between two bounds.
use Rattle.std.specs.Prelude.{◌≡◌, ℕ, Bool, true, not, ◌&&◌, Option, Some, slice_get}
use Rattle.std.specs.Ordering.{is_lt, is_le, is_gt, is_ge}
use Rattle.row_values.specs.Values.{kind_of}
use Rattle.row_values.specs.declared.values.Value.{Value}
use Rattle.csv_tables.specs.Tables.{TableValue, cell_at, column_kinds}
use Rattle.row_values.specs.Orders.{compares}
use Rattle.table_index.specs.declared.bounds.Bound.{Bound}
use Rattle.table_index.specs.declared.bounds.Bound.TheVariants.{Free, Closed, Strict}

-- whether the end of a bound is of a column's kind; a free one fits every column
abbrev pub FitsColumn : TableValue → ℕ → Bound → Type 0
FitsColumn table column Free = Unit {0}
FitsColumn table column (Closed end) = slice_get (column_kinds table.schema) column ≡ Some (kind_of end.now)
FitsColumn table column (Strict end) = slice_get (column_kinds table.schema) column ≡ Some (kind_of end.now)

-- whether a cell lies at or above a low end, and above a strict one
abbrev pub meets_low : Bound → Option Value → Bool
meets_low Free cell = true
meets_low (Closed end) cell = compares is_ge cell (Some end.now)
meets_low (Strict end) cell = compares is_gt cell (Some end.now)

-- whether a cell lies at or below a high end, and below a strict one
abbrev pub meets_high : Bound → Option Value → Bool
meets_high Free cell = true
meets_high (Closed end) cell = compares is_le cell (Some end.now)
meets_high (Strict end) cell = compares is_lt cell (Some end.now)

-- whether a row's cell lies below the low end
abbrev pub lies_below : TableValue → ℕ → Bound → ℕ → Bool
lies_below table column low row = not (meets_low low (cell_at table row column))

-- whether a row's cell doesn't lie above the high end
abbrev pub lies_up_to : TableValue → ℕ → Bound → ℕ → Bool
lies_up_to table column high row = meets_high high (cell_at table row column)

-- whether a row's cell lies within both ends
abbrev pub lies_within : TableValue → ℕ → Bound → Bound → ℕ → Bool
lies_within table column low high row =
    meets_low low (cell_at table row column) && meets_high high (cell_at table row column)
