-- The tables of a statement, one for each place.
use Rattle.std.specs.Prelude.{◌≡◌, List, map}
use Rattle.std.specs.Rc.{rc_value}
use Rattle.std.specs.declared.rc.Rc.{Rc}
use Rattle.row_values.specs.Statements.{Statement}
use Rattle.row_values.specs.declared.values.Value.{Value}
use Rattle.csv_tables.specs.Tables.{TableValue}

-- the tables in a list of shared ones
abbrev pub tables_in : {Z : Type 0} → List (Rc TableValue Z) → List TableValue
tables_in shared = map rc_value shared

-- one table for each place, with the place's columns
pub record AreTablesOf (q : Statement) (tables : List TableValue) : Type 0 where
  pub columns : map (λ table. table.schema) tables ≡ map (λ place. place.schema) q.places

-- the rows of each table
abbrev pub rows_in : List TableValue → List (List (List Value))
rows_in tables = map (λ table. table.rows) tables
