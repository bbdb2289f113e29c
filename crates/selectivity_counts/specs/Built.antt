-- When the indexes that a list holds are those of a statement's tables.
use Rattle.std.specs.Prelude.{◌≡◌, ℕ, List, Option, Some, slice_get}
use Rattle.row_values.specs.Statements.{Statement}
use Rattle.csv_tables.specs.Tables.{TableValue}
use Rattle.table_index.specs.Indexes.{IndexValue, IsBuilt}
use Rattle.table_index.specs.StatementIndexes.{index_at}

-- each index in the list was built of its place's table over its column; the list may end early
abbrev pub AreBuilt : Statement → List TableValue → List (Option IndexValue) → Type 0
AreBuilt q tables indexes =
    (place column : ℕ) (table : TableValue) (index : IndexValue) → slice_get tables place ≡ Some table
    → index_at q.places indexes place column ≡ Some index → IsBuilt table column index
