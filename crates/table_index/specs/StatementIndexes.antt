-- The indexes of a statement: a list with one entry for each place and column, place by place.
use Rattle.std.specs.Prelude.{◌≡◌, ℕ, ◌+◌, ◌*◌, List, [], ◌∷◌, ◌++◌, drop, length, map, slice_get, slice_index_or, sum_by, take}
use Rattle.std.specs.Prelude.{Option, None, Some, if◌then◌else◌, option_and_then, option_map}
use Rattle.std.specs.Rc.{rc_value}
use Rattle.std.specs.declared.rc.Rc.{Rc}
use Rattle.row_values.specs.RowNumbers.{row_numbers}
use Rattle.row_values.specs.Statements.{Statement, is_among}
use Rattle.row_values.specs.declared.statement.ColRef.{ColRef}
use Rattle.row_values.specs.declared.statement.Place.{Place}
use Rattle.csv_tables.specs.Tables.{TableValue}
use Rattle.table_index.specs.Indexes.{IndexValue, IsBuilt, rows_in_order}

-- the indexes in a list of shared ones
abbrev pub indexes_in : {Z : Type 0} → List (Option (Rc IndexValue Z)) → List (Option IndexValue)
indexes_in shared = map (λ entry. option_map rc_value entry) shared

-- the entries of each place: as many as it has columns
abbrev pub entries_by_place : {T : Type 0} → List Place → List T → List (List T)
entries_by_place [] entries = []
entries_by_place (place ∷ places) entries =
    take (length place.schema) entries ∷ entries_by_place places (drop (length place.schema) entries)

-- the entry of this column of this place, where there is one
abbrev pub entry_at : {T : Type 0} → List Place → List T → ℕ → ℕ → Option T
entry_at places entries place column = slice_get (slice_index_or (entries_by_place places entries) place []) column

-- the index over this column of this place, where there is one
abbrev pub index_at : List Place → List (Option IndexValue) → ℕ → ℕ → Option IndexValue
index_at places indexes place column = option_and_then (λ entry. entry) (entry_at places indexes place column)

-- an entry for each place and column; each index there was built of its place's table over its column
pub record AreIndexesOf (q : Statement) (tables : List TableValue) (indexes : List (Option IndexValue)) : Type 0 where
  pub one_each : length indexes ≡ sum_by (λ place. length place.schema) q.places
  pub built : (place column : ℕ) (table : TableValue) (index : IndexValue) → slice_get tables place ≡ Some table
      → index_at q.places indexes place column ≡ Some index → IsBuilt table column index

-- the mask of these entries: bit c is set where the entry c holds something
abbrev pub mask_of : {T : Type 0} → List (Option T) → ℕ
mask_of [] = 0
mask_of (None ∷ entries) = 2 * mask_of entries
mask_of (Some held ∷ entries) = 1 + 2 * mask_of entries

-- the mask of each place
abbrev pub masks_of : {T : Type 0} → List Place → List (Option T) → List ℕ
masks_of places entries = map mask_of (entries_by_place places entries)

-- the index of a table over a column
abbrev pub index_over : TableValue → ℕ → IndexValue
index_over table column = record { column = column; rows = rows_in_order table column }

-- the entry of a column of a place: its index, where the column is among these
abbrev pub wanted_entry : List ColRef → TableValue → ℕ → ℕ → Option IndexValue
wanted_entry wanted table place column =
    if is_among wanted (record { place = place; column = column }) then Some (index_over table column) else None

-- the entries of the tables from this place on, table by table
abbrev pub wanted_entries : List ColRef → ℕ → List TableValue → List (Option IndexValue)
wanted_entries wanted place [] = []
wanted_entries wanted place (table ∷ tables) =
    map (wanted_entry wanted table place) (row_numbers (length table.schema))
    ++ wanted_entries wanted (place + 1) tables
