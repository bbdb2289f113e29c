-- How much the versions hold that are kept: the present ones, and those that open cursors hold.
use Rattle.std.specs.Prelude.{ℕ, ◌+◌, ◌*◌, ◌==◌, nat_lt, List, [], ◌∷◌, ◌++◌, codes, length, map, filter_map, position}
use Rattle.std.specs.Prelude.{Bool, true, false, not, ◌&&◌, ◌||◌, if◌then◌else◌, Option, None, Some}
use Rattle.std.specs.Str.{bytes_eq}
use Rattle.row_values.specs.Names.{canonical_name}
use Rattle.row_values.specs.Refusals as refused
use Rattle.row_values.specs.Statements.{Statement}
use Rattle.row_values.specs.declared.refusals.Refusal.{Refusal}
use Rattle.csv_tables.specs.Tables.{TableValue}
use Rattle.catalog_model.specs.declared.TheConstants.{CURSOR_LIMIT}
use Rattle.catalog_model.specs.Catalogs.{Version, TableState, find_version}

-- the cells of a table
abbrev pub cells_of : TableValue → ℕ
cells_of table = length table.rows * length table.schema

-- the present version of each table
abbrev pub present_versions : List TableState → List Version
present_versions tables = map (λ table. table.now) tables

-- whether a version has this number
abbrev pub has_number : ℕ → List Version → Bool
has_number number [] = false
has_number number (version ∷ versions) = (version.number == number) || has_number number versions

-- whether no number stands twice
abbrev pub numbers_differ : List Version → Bool
numbers_differ [] = true
numbers_differ (version ∷ versions) = not (has_number version.number versions) && numbers_differ versions

-- the versions, each number once
abbrev pub each_once : List Version → List Version
each_once [] = []
each_once (version ∷ versions) =
    if has_number version.number versions then each_once versions else version ∷ each_once versions

-- the cells and the file bytes of a list of versions
abbrev pub cells_in : List Version → ℕ
cells_in [] = 0
cells_in (version ∷ versions) = cells_of version.content + cells_in versions

abbrev pub bytes_in : List Version → ℕ
bytes_in [] = 0
bytes_in (version ∷ versions) = version.bytes + bytes_in versions

-- the cells and the file bytes that versions hold together, a version counting once
abbrev pub cells_held : List Version → ℕ
cells_held versions = cells_in (each_once versions)

abbrev pub bytes_held : List Version → ℕ
bytes_held versions = bytes_in (each_once versions)

-- Cursors.

-- an open cursor: its name, and the versions of tables that it holds
pub record HeldCursor : Type 0 where
  pub name : List ℕ
  pub held : List Version

-- the versions that cursors hold, one cursor's after the other's
abbrev pub held_by : List HeldCursor → List Version
held_by [] = []
held_by (cursor ∷ cursors) = cursor.held ++ held_by cursors

-- whether a cursor of this name is open
abbrev pub is_open : List ℕ → List HeldCursor → Bool
is_open name [] = false
is_open name (cursor ∷ cursors) = bytes_eq cursor.name name || is_open name cursors

-- whether no name stands twice
abbrev pub cursors_differ : List HeldCursor → Bool
cursors_differ [] = true
cursors_differ (cursor ∷ cursors) = not (is_open cursor.name cursors) && cursors_differ cursors

-- the number of the open cursor of this name, from 0
abbrev pub cursor_number : List HeldCursor → List ℕ → Option ℕ
cursor_number cursors name = position (λ cursor. bytes_eq cursor.name name) cursors

-- the cursors without the one of this name, in the order in which they were
abbrev pub without_cursor : List ℕ → List HeldCursor → List HeldCursor
without_cursor name [] = []
without_cursor name (cursor ∷ cursors) =
    if bytes_eq cursor.name name then cursors else cursor ∷ without_cursor name cursors

-- the version of each place's table that is present, in FROM order
abbrev pub versions_of : List TableState → Statement → List Version
versions_of tables q = filter_map (λ place. find_version tables place.table) q.places

-- why no cursor of this name is opened beside these, if none is
abbrev pub holding_refusal : List HeldCursor → List ℕ → Option Refusal
holding_refusal cursors name =
    if is_open name cursors then Some (refused.name_taken (canonical_name name)) else
    if nat_lt (length cursors) CURSOR_LIMIT then None else
    Some (refused.store_limit (codes "cursors"))
