-- What the columns of a table must be.
use Rattle.std.specs.Prelude.{ℕ, ◌≤◌, ◌==◌, List, [], ◌∷◌, length, Bool, true, false, not, ◌&&◌, ◌||◌, IsTrue}
use Rattle.std.specs.Str.{bytes_eq}
use Rattle.row_values.specs.declared.columns.TheConstants.{COLUMN_LIMIT}
use Rattle.row_values.specs.declared.columns.Column.{Column}

-- whether a column has this name
abbrev pub is_name_in : List ℕ → List Column → Bool
is_name_in name [] = false
is_name_in name (column ∷ columns) = bytes_eq column.name name || is_name_in name columns

-- whether no name is empty and none stands twice
abbrev pub are_names : List Column → Bool
are_names [] = true
are_names (column ∷ columns) = not (length column.name == 0) && not (is_name_in column.name columns)
    && are_names columns

-- few enough columns, each with a name of its own
pub record IsSchema (columns : List Column) : Type 0 where
  pub few : length columns ≤ COLUMN_LIMIT
  pub named : IsTrue (are_names columns)
