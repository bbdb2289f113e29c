-- The catalog: tables with their versions and indexes, and prepared statements.
use Rattle.std.specs.Prelude.{ℕ, ◌≡◌, ◌+◌, ◌*◌, List, [], ◌∷◌, ◌++◌, map, set, Bool, true, false, not, ◌&&◌, ◌||◌}
use Rattle.std.specs.Prelude.{Option}
use Rattle.std.specs.Prelude.{None, Some, if◌then◌else◌, position}
use Rattle.std.specs.Option.{option_map_or}
use Rattle.std.specs.Str.{bytes_eq}
use Rattle.row_values.specs.Statements.{Statement}
use Rattle.row_values.specs.declared.statement.Place.{Place}
use Rattle.row_values.specs.declared.values.Value.{Value}
use Rattle.csv_tables.specs.Tables.{TableValue}
use Rattle.name_binder.specs.Catalog.{Known}
use Rattle.plan_trees.specs.Statistics.{Statistics}
use Rattle.plan_trees.specs.declared.statistics.Weights.{Weights}
use Rattle.statement_statistics.specs.Statistics.{stats_of}

-- a version of a table: what it holds, how long its file was, and its number among the versions of all tables
pub record Version : Type 0 where
  pub content : TableValue
  pub bytes : ℕ
  pub number : ℕ

-- a table: its name, its present version, and of each column whether it is indexed
pub record TableState : Type 0 where
  pub name : List ℕ
  pub now : Version
  pub indexed : List Bool

-- a prepared statement: its name, and what it is with its names resolved
pub record StatementState : Type 0 where
  pub name : List ℕ
  pub statement : Statement

-- tables and statements in the order in which they came, the next version's number, and what each kind of work weighs
pub record Catalog : Type 0 where
  pub tables : List TableState
  pub statements : List StatementState
  pub versions : ℕ
  pub weights : Weights

abbrev pub empty_catalog : Weights → Catalog
empty_catalog weights = record { tables = []; statements = []; versions = 0; weights = weights }

-- Looking up.

-- what the table of this name holds now
abbrev pub find_table : List TableState → List ℕ → Option TableValue
find_table [] name = None
find_table (table ∷ tables) name = if bytes_eq name table.name then Some table.now.content else find_table tables name

-- the version of the table of this name that is present
abbrev pub find_version : List TableState → List ℕ → Option Version
find_version [] name = None
find_version (table ∷ tables) name = if bytes_eq name table.name then Some table.now else find_version tables name

-- the statement of this name
abbrev pub find_statement : List StatementState → List ℕ → Option Statement
find_statement [] name = None
find_statement (prepared ∷ others) name =
    if bytes_eq name prepared.name then Some prepared.statement else find_statement others name

-- the tables that the names of a statement can stand for
abbrev pub schemas_of : List TableState → List Known
schemas_of [] = []
schemas_of (table ∷ tables) = record { name = table.name; schema = table.now.content.schema } ∷ schemas_of tables

-- the rows of the table of this name
abbrev pub rows_named : List TableState → List ℕ → List (List Value)
rows_named tables name = option_map_or (λ table. table.rows) (find_table tables name) []

-- the rows of each place of a statement, as its table is loaded now
abbrev pub tables_of : List TableState → Statement → List (List (List Value))
tables_of tables q = map (λ place. rows_named tables place.table) q.places

-- these are the tables of a statement's places, as they are loaded now
abbrev pub ArePresent : List TableState → Statement → List TableValue → Type 0
ArePresent tables q contents = map Some contents ≡ map (λ place. find_table tables place.table) q.places

-- of each column of the table of this name, whether it is indexed
abbrev pub flags_named : List TableState → List ℕ → List Bool
flags_named [] name = []
flags_named (table ∷ tables) name = if bytes_eq name table.name then table.indexed else flags_named tables name

-- the mask of flags: bit c is set where flag c is
abbrev pub mask_of_flags : List Bool → ℕ
mask_of_flags [] = 0
mask_of_flags (flag ∷ flags) = (if flag then 1 else 0) + 2 * mask_of_flags flags

-- for each place of a statement the mask of the columns that are indexed now
abbrev pub masks_now : List TableState → Statement → List ℕ
masks_now tables q = map (λ place. mask_of_flags (flags_named tables place.table)) q.places

-- the statistics of a statement over its tables as they are loaded and indexed now
abbrev pub stats_now : List TableState → Weights → Statement → Statistics
stats_now tables weights q = stats_of q (tables_of tables q) (masks_now tables q) weights

-- the number of the statement of this name, from 0
abbrev pub number_of : List StatementState → List ℕ → Option ℕ
number_of statements name = position (λ prepared. bytes_eq name prepared.name) statements

-- one of the places reads the table of this name
abbrev pub reads_table : List ℕ → List Place → Bool
reads_table name [] = false
reads_table name (place ∷ places) = bytes_eq place.table name || reads_table name places

-- whether a statement has this name
abbrev pub is_prepared : List ℕ → List StatementState → Bool
is_prepared name [] = false
is_prepared name (prepared ∷ others) = bytes_eq prepared.name name || is_prepared name others

-- whether no name stands twice
abbrev pub statements_differ : List StatementState → Bool
statements_differ [] = true
statements_differ (prepared ∷ others) = not (is_prepared prepared.name others) && statements_differ others

-- Changes.

-- the next version of a table, which holds this and whose file had so many bytes
abbrev pub next_version : Catalog → TableValue → ℕ → Version
next_version catalog content bytes = record { content = content; bytes = bytes; number = catalog.versions }

-- the tables with a new version of the one of this name, which keeps its indexes; or with a new table behind the others
abbrev pub put_version : List TableState → List ℕ → Version → List TableState
put_version [] name version =
    record { name = name; now = version; indexed = map (λ column. false) version.content.schema } ∷ []
put_version (table ∷ tables) name version =
    if bytes_eq name table.name then record table { now = version } ∷ tables else table ∷ put_version tables name
    version

-- a table has a new version
abbrev pub with_version : Catalog → List ℕ → Version → Catalog
with_version catalog name version =
    record catalog { tables = put_version catalog.tables name version; versions = catalog.versions + 1 }

-- the tables with this column of the one of this name indexed
abbrev pub put_index : List TableState → List ℕ → ℕ → List TableState
put_index [] name column = []
put_index (table ∷ tables) name column =
    if bytes_eq name table.name then record table { indexed = set table.indexed column true } ∷ tables else
    table ∷ put_index tables name column

-- a column is indexed, and stays so where it was
abbrev pub with_index : Catalog → List ℕ → ℕ → Catalog
with_index catalog name column = record catalog { tables = put_index catalog.tables name column }

-- a statement is kept behind the others
abbrev pub with_statement : Catalog → List ℕ → Statement → Catalog
with_statement catalog name q =
    record catalog { statements = catalog.statements ++ record { name = name; statement = q } ∷ [] }
