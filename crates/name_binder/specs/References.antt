-- What a reference means among the places of a statement.
use Rattle.std.specs.Prelude.{ℕ, ◌+◌, ◌==◌, nat_lt, List, [], ◌∷◌, ◌++◌, map, flat_map, filter_map, Bool, true, ◌&&◌}
use Rattle.std.specs.Prelude.{if◌then◌else◌, Option, Some, None, unwrap_or}
use Rattle.std.specs.Str.{bytes_eq}
use Rattle.row_values.specs.Columns.{is_name_in}
use Rattle.row_values.specs.Statements.{kind_at}
use Rattle.row_values.specs.declared.columns.Column.{Column}
use Rattle.row_values.specs.declared.values.Kind.{Kind}
use Rattle.row_values.specs.declared.statement.Place.{Place}
use Rattle.row_values.specs.declared.statement.ColRef.{ColRef}
use Rattle.sql_parser.specs.Statement.{Parts}
use Rattle.sql_parser.specs.declared.statement.RawRef.{RawRef}
use Rattle.sql_parser.specs.declared.statement.RawPlace.{RawPlace}
use Rattle.sql_parser.specs.declared.statement.RawItem.{RawItem}
use Rattle.sql_parser.specs.declared.statement.RawItem.TheVariants as item
use Rattle.sql_parser.specs.declared.statement.RawCond.{RawCond}
use Rattle.sql_parser.specs.declared.statement.RawCond.TheVariants as cond
use Rattle.name_binder.specs.Catalog.{Known, schema_named}

-- a place with the schema of its table
abbrev pub place_of : List Known → RawPlace → Place
place_of tables place = record {
  table = place.table;
  alias = place.alias;
  schema =
      unwrap_or (schema_named place.table tables) [];
}

abbrev pub places_of : List Known → List RawPlace → List Place
places_of tables places = map (place_of tables) places

-- a reference without an alias may mean any place
abbrev pub goes_with : Option (List ℕ) → Place → Bool
goes_with None place = true
goes_with (Some alias) place = bytes_eq place.alias alias

-- whether the reference can mean a column of this place
abbrev pub can_mean : RawRef → Place → Bool
can_mean r place = goes_with r.alias place && is_name_in r.column place.schema

-- how many places the reference can mean a column of
abbrev pub readings : RawRef → List Place → ℕ
readings r [] = 0
readings r (place ∷ places) = (if can_mean r place then 1 else 0) + readings r places

-- the first place that the reference can mean a column of
abbrev pub place_number : RawRef → List Place → ℕ
place_number r [] = 0
place_number r (place ∷ places) = if can_mean r place then 0 else place_number r places + 1

-- the column of this name
abbrev pub column_number : List ℕ → List Column → ℕ
column_number name [] = 0
column_number name (column ∷ columns) = if bytes_eq column.name name then 0 else column_number name columns + 1

-- the column of the reference's name in that place
abbrev pub column_in : RawRef → List Place → ℕ
column_in r [] = 0
column_in r (place ∷ places) = if can_mean r place then column_number r.column place.schema else column_in r places

-- the column that a known reference means
abbrev pub meant : List Place → RawRef → ColRef
meant places r = record { place = place_number r places; column = column_in r places }

abbrev pub kind_meant : List Place → RawRef → Option Kind
kind_meant places r = kind_at places (meant places r)

-- no place has it
abbrev pub is_unknown : List Place → RawRef → Bool
is_unknown places r = readings r places == 0

-- two places or more have it
abbrev pub is_ambiguous : List Place → RawRef → Bool
is_ambiguous places r = nat_lt 1 (readings r places)

abbrev pub item_ref : RawItem → Option RawRef
item_ref (item.Column r) = Some r
item_ref item.CountAll = None
item_ref (item.Sum r) = Some r
item_ref (item.Min r) = Some r
item_ref (item.Max r) = Some r

abbrev pub cond_refs : RawCond → List RawRef
cond_refs (cond.Test r test) = r ∷ []
cond_refs (cond.Same a b) = a ∷ b ∷ []

-- all references of a statement in text order
abbrev pub refs_of : Parts → List RawRef
refs_of s = filter_map item_ref s.items ++ flat_map cond_refs s.conds ++ s.groups ++ map (λ key. key.at) s.order
