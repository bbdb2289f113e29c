-- The row numbers that an access still offers.
use Rattle.std.specs.Prelude.{ℕ, ◌≡◌, ◌++◌, List, Bool, drop, length, filter}
use Rattle.index_ranges.specs.Ranges.{are_within, rows_between}
use Rattle.row_values.specs.RowNumbers.{row_numbers}
use Rattle.plan_trees.specs.Trees.{place_of}
use Rattle.plan_trees.specs.declared.plans.Access.{Access}
use Rattle.statement_meaning.specs.PartialCombinations.{RowsOnce}
use Rattle.plan_operators.specs.Sources.{AreInOrderOf, world_read}
use Rattle.plan_operators.specs.declared.source.Source.{Source}
use Rattle.pull_operators.specs.declared.row_cursor.NumberCursor.{NumberCursor}
use Rattle.pull_operators.specs.declared.row_cursor.IndexCursor.{IndexCursor}
use Rattle.pull_operators.specs.declared.row_cursor.RowCursor.{RowCursor}
use Rattle.pull_operators.specs.declared.row_cursor.RowCursor.TheVariants.{Numbers, Index}

abbrev pub numbers_left : NumberCursor → List ℕ
numbers_left cursor = drop cursor.next (row_numbers cursor.end)

-- the rest of the present range, and the rows of the ranges that are left
abbrev pub index_rows_left : IndexCursor → List ℕ
index_rows_left cursor = cursor.left.now ++ rows_between cursor.rows.now (drop cursor.number cursor.ranges.items)

abbrev pub rows_left : RowCursor → List ℕ
rows_left (Numbers cursor) = numbers_left cursor
rows_left (Index cursor) = index_rows_left cursor

-- ranges end where there are so many positions
abbrev pub IsWithin : RowCursor → Type 0
IsWithin (Numbers cursor) = Unit {0}
IsWithin (Index cursor) = are_within (length cursor.rows.now) cursor.ranges.items

-- The cursor of an access: of the rows that it offers, those that meet the predicates on the place are all rows that
-- do, each once, and they come in the order of its index, where it has one.
pub record IsCursorOf (source : Source) (access : Access) (cursor : RowCursor) : Type 0 where
  pub within : IsWithin cursor
  pub each_once : (tests : ℕ → Bool) → ((row : ℕ) → tests row ≡ (world_read source).passes (place_of access) row)
      → RowsOnce (world_read source) (place_of access) (filter tests (rows_left cursor))
  pub in_order : (tests : ℕ → Bool) → AreInOrderOf source access (filter tests (rows_left cursor))
