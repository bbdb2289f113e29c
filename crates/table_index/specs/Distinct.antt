-- How many distinct cells a column has.
use Rattle.std.specs.Prelude.{ℕ, List, map, length, slice_get, take, not, Bool, Option}
use Rattle.std.specs.List.{list_any}
use Rattle.std.specs.Ordering.{is_eq}
use Rattle.row_values.specs.declared.values.Value.{Value}
use Rattle.csv_tables.specs.Tables.{TableValue, cell_at}
use Rattle.row_values.specs.Orders.{cell_order}
use Rattle.row_values.specs.Sorting.{heads}

-- the cells of a column in row order
abbrev pub cells_in : TableValue → ℕ → List (Option Value)
cells_in table column = map (λ row. slice_get row column) table.rows

-- whether two cells are equal
abbrev pub is_same_cell : Option Value → Option Value → Bool
is_same_cell a b = is_eq (cell_order a b)

-- the cells of these rows
abbrev pub cells_of : TableValue → ℕ → List ℕ → List (Option Value)
cells_of table column rows = map (λ row. cell_at table row column) rows

-- the number of distinct elements of a list
abbrev pub distinct_count : {X : Type 0} → (X → X → Bool) → List X → ℕ
distinct_count same xs = length (heads same xs)

-- whether none of the first so many elements equals this one
abbrev pub is_new : {X : Type 0} → (X → X → Bool) → List X → ℕ → X → Bool
is_new same xs position x = not (list_any (λ y. same y x) (take position xs))

-- the number of distinct cells in a column
abbrev pub distinct_in : TableValue → ℕ → ℕ
distinct_in table column = distinct_count is_same_cell (cells_in table column)
