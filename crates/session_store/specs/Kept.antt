-- What a store keeps, as the catalog and the cursors that contracts see.
use Rattle.std.specs.Prelude.{ℕ, ◌≡◌, ◌<◌, ◌≤◌, List, [], ◌∷◌, ◌++◌, length, map, slice_get, All, Bool, Option}
use Rattle.std.specs.Prelude.{None, Some, IfSome, IsTrue, is_some, if◌then◌else◌}
use Rattle.std.specs.Str.{bytes_eq}
use Rattle.std.specs.declared.alloc.Global.{Global}
use Rattle.std.specs.declared.rc.Rc.{Rc}
use Rattle.row_values.specs.Statements.{Statement}
use Rattle.row_values.specs.declared.statement.Place.{Place}
use Rattle.csv_tables.specs.Tables.{TableValue}
use Rattle.plan_trees.specs.declared.statistics.Weights.{Weights}
use Rattle.table_index.specs.Indexes.{IndexValue, IsBuilt}
use Rattle.table_index.specs.StatementIndexes.{indexes_in, mask_of}
use Rattle.selectivity_counts.specs.Kept.{distinct_counts}
use Rattle.catalog_model.specs.declared.TheConstants.{CURSOR_LIMIT}
use Rattle.catalog_model.specs.Catalogs.{Catalog, TableState, StatementState, Version, empty_catalog, find_table}
use Rattle.catalog_model.specs.Catalogs.{flags_named}
use Rattle.catalog_model.specs.Held.{HeldCursor, cursors_differ, held_by, present_versions}
use Rattle.catalog_model.specs.Sound.{AreNumbered, IsCatalog}
use Rattle.session_store.specs.Measures.{measures_of}
use Rattle.session_store.specs.declared.measures.Measure.{Measure}

-- a table that is held: its present version, and for each column its index, where there is one
pub record HeldTable : Type 0 where
  pub version : Version
  pub indexes : List (Option IndexValue)

-- of each column whether it is indexed
abbrev pub flags_of : List (Option IndexValue) → List Bool
flags_of indexes = map (λ entry. is_some entry) indexes

-- a version, in its parts
abbrev pub table_version : TableValue → ℕ → ℕ → Version
table_version content bytes number = record { content = content; bytes = bytes; number = number }

-- what is held, in its parts
abbrev pub held_table : Version → List (Option (Rc IndexValue Global)) → HeldTable
held_table version entries = record { version = version; indexes = indexes_in entries }

-- a version of a new table, which has no index
abbrev pub unindexed : Version → HeldTable
unindexed version = record { version = version; indexes = map (λ column. None) version.content.schema }

-- each index among these entries was built of the table over its column
abbrev pub AreBuilt : TableValue → List (Option IndexValue) → Type 0
AreBuilt content indexes =
    (column : ℕ) (index : IndexValue) → slice_get indexes column ≡ Some (Some index) → IsBuilt content column index

-- there is an entry for each column, and each index there was built of the table over its column
pub record IsIndexed (held : HeldTable) : Type 0 where
  pub one_each : length held.indexes ≡ length held.version.content.schema
  pub built : AreBuilt held.version.content held.indexes

-- what is held is indexed, and the distinct counts that are kept are those of the table
pub record IsHeldTable (held : HeldTable) (distincts : Option (Rc (List ℕ) Global)) : Type 0 where
  pub indexed : IsIndexed held
  pub counted : IfSome distincts (λ counts. counts.value ≡ distinct_counts held.version.content)

-- the tables that are held, in the order of their names' entries
abbrev pub tables_in : List (List ℕ × HeldTable) → List TableState
tables_in [] = []
tables_in (e ∷ es) = record { name = e.0; now = e.1.version; indexed = flags_of e.1.indexes } ∷ tables_in es

abbrev pub statements_in : List (List ℕ × Statement) → List StatementState
statements_in [] = []
statements_in (e ∷ es) = record { name = e.0; statement = e.1 } ∷ statements_in es

abbrev pub catalog_in : List (List ℕ × HeldTable) → List (List ℕ × Statement) → ℕ → Weights → Catalog
catalog_in tables statements versions weights = record {
  tables = tables_in tables;
  statements = statements_in statements;
  versions = versions;
  weights = weights;
}

-- a cursor, in its parts
abbrev pub held_cursor : List ℕ → List Version → HeldCursor
held_cursor name held = record { name = name; held = held }

-- the catalog, and the open cursors in the order in which they came
pub record StoreState : Type 0 where
  pub catalog : Catalog
  pub cursors : List HeldCursor

abbrev pub empty_state : Weights → StoreState
empty_state weights = record { catalog = empty_catalog weights; cursors = [] }

abbrev pub state_in : List (List ℕ × HeldTable) → List (List ℕ × Statement) → ℕ → Weights → List HeldCursor
    → StoreState
state_in tables statements versions weights cursors =
    record { catalog = catalog_in tables statements versions weights; cursors = cursors }

-- the measures are those of the statements, the catalog is sound beside what the cursors hold, each number of a version
-- stands for one, and the cursors' names differ and are few
pub record IsKept (state : StoreState) (measures : List Measure) : Type 0 where
  pub measured : measures ≡ measures_of state.catalog.tables state.catalog.weights state.catalog.statements
  pub sound : IsCatalog (held_by state.cursors) state.catalog
  pub numbered : AreNumbered state.catalog.versions (held_by state.cursors ++ present_versions state.catalog.tables)
  pub cursor_names : IsTrue (cursors_differ state.cursors)
  pub few_cursors : length state.cursors ≤ CURSOR_LIMIT

-- The tables of a statement's places.

abbrev pub contents_of : List HeldTable → List TableValue
contents_of held = map (λ one. one.version.content) held

-- the entries of all columns, place by place
abbrev pub entries_of : List HeldTable → List (Option IndexValue)
entries_of [] = []
entries_of (one ∷ held) = one.indexes ++ entries_of held

-- this is held of the table of a place
pub record IsHeldAt (tables : List TableState) (place : Place) (held : HeldTable) : Type 0 where
  pub content : Some held.version.content ≡ find_table tables place.table
  pub flags : flags_of held.indexes ≡ flags_named tables place.table
  pub indexed : IsIndexed held

-- these are held of the tables of these places, in their order, and each is indexed
pub record AreHeld (tables : List TableState) (places : List Place) (held : List HeldTable) : Type 0 where
  pub contents : map (λ one. Some one.version.content) held ≡ map (λ place. find_table tables place.table) places
  pub flags : map (λ one. flags_of one.indexes) held ≡ map (λ place. flags_named tables place.table) places
  pub indexed : All IsIndexed held

-- the masks of what is held
abbrev pub masks_in : List HeldTable → List ℕ
masks_in held = map (λ one. mask_of one.indexes) held

-- Changes.

-- the tables with this held under this name, in the place of what was there or behind the others
abbrev pub put_held : List TableState → List ℕ → HeldTable → List TableState
put_held [] name held = record { name = name; now = held.version; indexed = flags_of held.indexes } ∷ []
put_held (table ∷ tables) name held =
    if bytes_eq name table.name then
    record { name = table.name; now = held.version; indexed = flags_of held.indexes } ∷ tables else
    table ∷ put_held tables name held

-- the table of this name has this column
pub record HasColumn (tables : List TableState) (name : List ℕ) (column : ℕ) : Type 0 where
  pub content : TableValue
  pub found : find_table tables name ≡ Some content
  pub in_range : column < length content.schema
