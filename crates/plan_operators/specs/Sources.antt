-- What operators read, and what they promise of the combinations that they give.
use Rattle.std.specs.Prelude.{ℕ, List, Bool, IsTrue, slice_get}
use Rattle.std.specs.Ordering.{is_lt}
use Rattle.row_values.specs.Orders.{cell_order}
use Rattle.row_values.specs.Statements.{IsSoundQuery}
use Rattle.row_values.specs.declared.values.Value.{Value}
use Rattle.row_values.specs.declared.statement.ColRef.{ColRef}
use Rattle.row_values.specs.Sorting.{Rises}
use Rattle.csv_tables.specs.StatementTables.{AreTablesOf, rows_in, tables_in}
use Rattle.table_index.specs.StatementIndexes.{AreIndexesOf, indexes_in, masks_of}
use Rattle.plan_trees.specs.PlaceSets.{has}
use Rattle.plan_trees.specs.PlanSpace.{column_of, has_all_keys, wanted_order}
use Rattle.plan_trees.specs.declared.plans.Access.{Access}
use Rattle.plan_trees.specs.declared.plans.Access.TheVariants.{Seq, Range, Full}
use Rattle.statement_meaning.specs.Combinations.{World, row_at, world_of}
use Rattle.statement_meaning.specs.Meaning.{is_before}
use Rattle.statement_meaning.specs.PartialCombinations.{Once}
use Rattle.plan_operators.specs.declared.source.Side.{Side}
use Rattle.plan_operators.specs.declared.source.Source.{Source}

-- the rows of the tables, and what the statement asks of them
abbrev pub rows_read : Source → List (List (List Value))
rows_read source = rows_in (tables_in source.tables.now)

abbrev pub world_read : Source → World
world_read source = world_of source.q.now (rows_read source) source.args.now

-- which columns of which places have an index
abbrev pub masks_read : Source → List ℕ
masks_read source = masks_of source.q.now.places source.indexes.now

-- the statement is sound, its tables are those of its places, and each index was built of one
pub record IsSource (source : Source) : Type 0 where
  pub sound : IsSoundQuery source.q.now
  pub tables : AreTablesOf source.q.now (tables_in source.tables.now)
  pub indexes : AreIndexesOf source.q.now (tables_in source.tables.now) (indexes_in source.indexes.now)

-- how two rows of a place stand by a column of it, and rows that rise by it
abbrev pub is_row_before : Source → ColRef → ℕ → ℕ → Bool
is_row_before source at a b =
    is_lt
    (cell_order (slice_get (row_at (rows_read source) at.place a) at.column)
    (slice_get (row_at (rows_read source) at.place b) at.column))

-- the rows that an access reads come in the order of its index, where it has one
abbrev pub AreInOrderOf : Source → Access → List ℕ → Type 0
AreInOrderOf source (Seq place) rows = Unit {0}
AreInOrderOf source (Range place column pred) rows = Rises (is_row_before source (column_of place column)) rows
AreInOrderOf source (Full place column) rows = Rises (is_row_before source (column_of place column)) rows

-- a side has each combination over its places once, and no other
abbrev pub HasEachOnce : Source → Side → Type 0
HasEachOnce source side = Once (world_read source) (has side.places) side.combos.items

-- a side has the places of all wanted keys
abbrev pub HasWantedPlaces : Source → Side → Type 0
HasWantedPlaces source side = IsTrue (has_all_keys side.places (wanted_order source.q.now))

-- its combinations stand in the wanted order
abbrev pub IsInOrder : Source → Side → Type 0
IsInOrder source side = Rises (is_before (rows_read source) (wanted_order source.q.now)) side.combos.items
