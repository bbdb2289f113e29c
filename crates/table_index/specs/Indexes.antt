-- What an index is: the rows of a table in the order of one column.
use Rattle.std.specs.Prelude.{◌≡◌, ◌<◌, ℕ, ℤ, List, length, slice_get, Bool, IsPermutation, IsSortedBy}
use Rattle.std.specs.Option.{option_cmp}
use Rattle.std.specs.Ordering.{int_cmp, is_lt, nat_cmp, ordering_then}
use Rattle.std.specs.declared.cmp.Ordering.{Ordering}
use Rattle.row_values.specs.Sorting.{in_order}
use Rattle.csv_tables.specs.Tables.{TableValue, cell_at}
use Rattle.row_values.specs.RowNumbers.{row_numbers}
use Rattle.row_values.specs.Orders.{cell_order}

-- what contracts see of an index
pub record IndexValue : Type 0 where
  pub column : ℕ
  pub rows : List ℕ

-- how two rows stand in a column: by their cells, and where these are equal by their numbers
abbrev pub row_order : TableValue → ℕ → ℕ → ℕ → Ordering
row_order table column a b = ordering_then (cell_order (cell_at table a column) (cell_at table b column)) (nat_cmp a b)

-- whether one row comes before another
abbrev pub is_before : TableValue → ℕ → ℕ → ℕ → Bool
is_before table column a b = is_lt (row_order table column a b)

-- the same of two rows of a packed column
abbrev pub number_order : List ℤ → ℕ → ℕ → Ordering
number_order numbers a b = ordering_then (option_cmp int_cmp (slice_get numbers a) (slice_get numbers b)) (nat_cmp a b)

-- these are the rows of a table, each once, in the order of a column
pub record AreOrdered (table : TableValue) (column : ℕ) (rows : List ℕ) : Type 0 where
  pub each_once : IsPermutation (row_numbers (length table.rows)) rows
  pub in_order : IsSortedBy (is_before table column) rows

-- the one list of the rows of a table in the order of a column: that of their numbers, sorted
abbrev pub rows_in_order : TableValue → ℕ → List ℕ
rows_in_order table column = in_order (is_before table column) (row_numbers (length table.rows))

-- an index is built of a table over a column
pub record IsBuilt (table : TableValue) (column : ℕ) (index : IndexValue) : Type 0 where
  pub column_is : index.column ≡ column
  pub in_range : column < length table.schema
  pub rows_are : AreOrdered table column index.rows
