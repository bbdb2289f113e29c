-- What a worked statement is, and what makes tables, indexes and statistics its own.
use Rattle.std.specs.Prelude.{◌≡◌, List, Option}
use Rattle.std.specs.declared.rc.Rc.{Rc}
use Rattle.row_values.specs.Statements.{Statement}
use Rattle.row_values.specs.declared.values.Value.{Value}
use Rattle.csv_tables.specs.StatementTables.{AreTablesOf}
use Rattle.csv_tables.specs.Tables.{TableValue}
use Rattle.table_index.specs.Indexes.{IndexValue}
use Rattle.table_index.specs.StatementIndexes.{AreIndexesOf, indexes_in, masks_of}
use Rattle.plan_trees.specs.Statistics.{Statistics}

-- a statement with arguments, over the rows of its places
pub record Posed : Type 0 where
  pub statement : Statement
  pub tables : List (List (List Value))
  pub args : List Value

-- the tables are those of the places, the indexes were built of them, and the statistics name these indexes
pub record AreOfStatement {Z : Type 0} (q : Statement) (tables : List TableValue)
    (indexes : List (Option (Rc IndexValue Z))) (stats : Statistics) : Type 0 where
  pub of_places : AreTablesOf q tables
  pub built : AreIndexesOf q tables (indexes_in indexes)
  pub masks : stats.indexed ≡ masks_of q.places indexes
