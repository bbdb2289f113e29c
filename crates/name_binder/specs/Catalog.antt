-- The tables that names can stand for, each with its schema.
use Rattle.std.specs.Prelude.{ℕ, List, [], ◌∷◌, Bool, true, false, not, ◌&&◌, ◌||◌, if◌then◌else◌, Option, Some, None}
use Rattle.std.specs.Str.{bytes_eq}
use Rattle.row_values.specs.declared.columns.Column.{Column}

-- a table: its name, and its columns
pub record Known : Type 0 where
  pub name : List ℕ
  pub schema : List Column

-- whether one of these tables has the name
abbrev pub is_known : List ℕ → List Known → Bool
is_known name [] = false
is_known name (known ∷ others) = bytes_eq known.name name || is_known name others

-- whether no name stands twice
abbrev pub names_differ : List Known → Bool
names_differ [] = true
names_differ (known ∷ others) = not (is_known known.name others) && names_differ others

-- the schema of the table of this name
abbrev pub schema_named : List ℕ → List Known → Option (List Column)
schema_named name [] = None
schema_named name (known ∷ others) = if bytes_eq known.name name then Some known.schema else schema_named name others
