-- An indexing: the column that is indexed, or the first refusal.
use Rattle.std.specs.Prelude.{ℕ, List, position, Option, Some, None, Result, Ok, Err}
use Rattle.std.specs.Str.{bytes_eq}
use Rattle.row_values.specs.Names.{canonical_name}
use Rattle.row_values.specs.Refusals as refused
use Rattle.row_values.specs.declared.columns.Column.{Column}
use Rattle.row_values.specs.declared.refusals.Refusal.{Refusal}
use Rattle.csv_tables.specs.Tables.{TableValue}
use Rattle.catalog_model.specs.Catalogs.{Catalog, find_table}

-- the number of the column of this name, from 0
abbrev pub column_named : List Column → List ℕ → Option ℕ
column_named schema name = position (λ column. bytes_eq column.name name) schema

-- the number, unless there is no such column
abbrev pub column_or_refusal : Option ℕ → List ℕ → Result ℕ Refusal
column_or_refusal None name = Err (refused.unknown_column (canonical_name name))
column_or_refusal (Some number) name = Ok number

-- the column of this name, unless there is no such table or column
abbrev pub indexing_in : Option TableValue → List ℕ → List ℕ → Result ℕ Refusal
indexing_in None table column = Err (refused.unknown_table (canonical_name table))
indexing_in (Some content) table column = column_or_refusal (column_named content.schema column) column

-- the number of the column of this table that is indexed, or the first refusal
unfoldable pub indexing_of : Catalog → List ℕ → List ℕ → Result ℕ Refusal
indexing_of catalog table column = indexing_in (find_table catalog.tables table) table column
