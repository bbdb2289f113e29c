-- A load: the table that the file spells in its new version, or the first refusal.
use Rattle.std.specs.Prelude.{ℕ, ◌&&◌, nat_lt, List, [], ◌∷◌, ◌++◌, codes, length, Bool, true, false, not, Option, Some, None, Result, Ok, Err, if◌then◌else◌}
use Rattle.std.specs.Str.{bytes_eq}
use Rattle.outside_model.specs.declared.TheConstants.{FILE_LIMIT}
use Rattle.row_values.specs.Names.{canonical_name}
use Rattle.row_values.specs.Refusals as refused
use Rattle.row_values.specs.declared.columns.Column.{Column}
use Rattle.row_values.specs.declared.refusals.Refusal.{Refusal}
use Rattle.row_values.specs.declared.values.Kind.{Kind}
use Rattle.row_values.specs.declared.values.Kind.TheVariants.{Int, Text}
use Rattle.csv_tables.specs.Tables.{TableValue}
use Rattle.csv_tables.specs.Spelled.{table_of}
use Rattle.csv_tables.specs.declared.faults.TableFault.{TableFault}
use Rattle.catalog_model.specs.declared.TheConstants.{TABLE_LIMIT, HELD_CELL_LIMIT, HELD_BYTE_LIMIT}
use Rattle.catalog_model.specs.Catalogs.{Catalog, TableState, Version, find_table, put_version, next_version}
use Rattle.catalog_model.specs.Faults.{fault_text}
use Rattle.catalog_model.specs.Held.{cells_held, bytes_held, present_versions}

abbrev pub is_same_kind : Kind → Kind → Bool
is_same_kind Int Int = true
is_same_kind Int Text = false
is_same_kind Text Int = false
is_same_kind Text Text = true

-- the same names and kinds in order
abbrev pub are_same_columns : List Column → List Column → Bool
are_same_columns [] [] = true
are_same_columns [] (new ∷ news) = false
are_same_columns (old ∷ olds) [] = false
are_same_columns (old ∷ olds) (new ∷ news) =
    bytes_eq old.name new.name && is_same_kind old.kind new.kind && are_same_columns olds news

-- a table of this name is loaded, with other columns
abbrev pub has_other_columns : Option TableValue → TableValue → Bool
has_other_columns None new = false
has_other_columns (Some old) new = not (are_same_columns old.schema new.schema)

-- which limit is passed by so many tables and these versions, the first of them
abbrev pub passed_limit : ℕ → List Version → Option (List ℕ)
passed_limit tables versions =
    if nat_lt TABLE_LIMIT tables then Some (codes "tables") else
    if nat_lt HELD_CELL_LIMIT (cells_held versions) then Some (codes "cells") else
    if nat_lt HELD_BYTE_LIMIT (bytes_held versions) then Some (codes "bytes") else
    None

-- the same of these tables, beside the versions that cursors hold
abbrev pub limit_passed_by : List Version → List TableState → Option (List ℕ)
limit_passed_by held tables = passed_limit (length tables) (held ++ present_versions tables)

-- the version, unless a limit is passed with it
abbrev pub within_limits : Version → Option (List ℕ) → Result Version Refusal
within_limits new None = Ok new
within_limits new (Some limit) = Err (refused.store_limit limit)

-- the new version of the table of this name, or why it isn't kept
abbrev pub keeping_of : List Version → List TableState → List ℕ → Version → Result Version Refusal
keeping_of held tables name new =
    if has_other_columns (find_table tables name) new.content then Err (refused.schema_differs (canonical_name name)) else
    within_limits new (limit_passed_by held (put_version tables name new))

-- the same of what a file of so many bytes spells
abbrev pub spelled_version : List Version → Catalog → List ℕ → ℕ → Result TableValue TableFault → Result Version Refusal
spelled_version held catalog name bytes (Err fault) = Err (refused.not_a_table (fault_text fault))
spelled_version held catalog name bytes (Ok content) =
    keeping_of held catalog.tables name (next_version catalog content bytes)

-- the version that a load keeps under this name, beside the versions that cursors hold, or the first refusal
unfoldable pub loading_of : List Version → Catalog → List ℕ → List ℕ → Result Version Refusal
loading_of held catalog name bytes =
    if nat_lt FILE_LIMIT (length bytes) then Err refused.file_too_long else
    spelled_version held catalog name (length bytes) (table_of bytes)
