-- What every catalog of a session has.
use Rattle.std.specs.Prelude.{ℕ, ◌≡◌, ◌≤◌, ◌<◌, List, ◌++◌, length, All, IsTrue, Some}
use Rattle.std.specs.Option.{option_map}
use Rattle.row_values.specs.Statements.{IsSoundQuery}
use Rattle.row_values.specs.declared.statement.Place.{Place}
use Rattle.csv_tables.specs.Tables.{IsTable}
use Rattle.name_binder.specs.Catalog.{names_differ}
use Rattle.plan_trees.specs.Statistics.{AreWeights}
use Rattle.catalog_model.specs.declared.TheConstants.{TABLE_LIMIT, STATEMENT_LIMIT, HELD_CELL_LIMIT, HELD_BYTE_LIMIT}
use Rattle.catalog_model.specs.Catalogs.{Catalog, TableState, Version, find_table, schemas_of, statements_differ}
use Rattle.catalog_model.specs.Held.{present_versions, numbers_differ, cells_held, bytes_held}

-- the place's table is loaded, with the columns that the place knows
abbrev pub IsLoaded : List TableState → Place → Type 0
IsLoaded tables place = option_map (λ table. table.schema) (find_table tables place.table) ≡ Some place.schema

-- each number stands for one version, and is below the next one
pub record AreNumbered (next : ℕ) (versions : List Version) : Type 0 where
  pub version_of : ℕ → Version
  pub one_each : All (λ version. version_of version.number ≡ version) versions
  pub before : All (λ version. version.number < next) versions

-- a catalog, beside the versions that cursors hold
pub record IsCatalog (held : List Version) (catalog : Catalog) : Type 0 where
  pub weights : AreWeights catalog.weights
  -- no name and no number of a version stands twice
  pub table_names : IsTrue (names_differ (schemas_of catalog.tables))
  pub statement_names : IsTrue (statements_differ catalog.statements)
  pub version_numbers : IsTrue (numbers_differ (present_versions catalog.tables))
  pub numbered : All (λ table. table.now.number < catalog.versions) catalog.tables
  -- what is loaded are tables: few rows and cells, and in each row a value per column, of its kind
  pub are_tables : All (λ table. IsTable table.now.content) catalog.tables
  -- each statement is sound, and its tables are loaded, with the columns that it knows
  pub are_sound : All (λ prepared. IsSoundQuery prepared.statement) catalog.statements
  pub loaded : All (λ prepared. All (IsLoaded catalog.tables) prepared.statement.places) catalog.statements
  -- all is within the limits
  pub few_tables : length catalog.tables ≤ TABLE_LIMIT
  pub few_statements : length catalog.statements ≤ STATEMENT_LIMIT
  pub few_cells : cells_held (held ++ present_versions catalog.tables) ≤ HELD_CELL_LIMIT
  pub few_bytes : bytes_held (held ++ present_versions catalog.tables) ≤ HELD_BYTE_LIMIT
