-- What a session keeps between its lines.
use Rattle.std.specs.Prelude.{ℕ, List, [], ◌∷◌, drop, map, slice_index_or, if◌then◌else◌, Option, Some, None}
use Rattle.std.specs.Str.{bytes_eq}
use Rattle.cache_model.specs.Caches.{CacheState, cleared, empty_cache}
use Rattle.catalog_model.specs.Catalogs.{Catalog, StatementState, Version, empty_catalog, reads_table}
use Rattle.catalog_model.specs.Held.{HeldCursor, held_by}
use Rattle.session_model.specs.declared.settings.Settings.{Settings}

-- an open cursor: its name, the versions of tables that it holds, and its row lines that aren't fetched yet
pub record CursorState : Type 0 where
  pub name : List ℕ
  pub held : List Version
  pub lines : List (List ℕ)

-- the catalog, the plan cache of each statement in the order of the statements, the open cursors in the order in which
-- they came, how many executions there were, and the settings
pub record State : Type 0 where
  pub catalog : Catalog
  pub caches : List CacheState
  pub cursors : List CursorState
  pub executions : ℕ
  pub settings : Settings

abbrev pub initial_state : Settings → State
initial_state settings =
    record {
      catalog = empty_catalog settings.weights;
      caches = [];
      cursors = [];
      executions = 0;
      settings = settings;
    }

-- Cursors.

-- what an open cursor holds against the limits, without its row lines
abbrev pub hold_of : CursorState → HeldCursor
hold_of cursor = record { name = cursor.name; held = cursor.held }

abbrev pub holds_of : List CursorState → List HeldCursor
holds_of cursors = map hold_of cursors

-- the versions that cursors hold
abbrev pub held_versions : List CursorState → List Version
held_versions cursors = held_by (holds_of cursors)

-- the cursor of this name
abbrev pub cursor_named : List CursorState → List ℕ → Option CursorState
cursor_named [] name = None
cursor_named (cursor ∷ cursors) name = if bytes_eq cursor.name name then Some cursor else cursor_named cursors name

-- the cursors once so many row lines of the one of this name were fetched
abbrev pub fetched_from : List CursorState → List ℕ → ℕ → List CursorState
fetched_from [] name count = []
fetched_from (cursor ∷ cursors) name count =
    if bytes_eq cursor.name name then record cursor { lines = drop count cursor.lines } ∷ cursors else
    cursor ∷ fetched_from cursors name count

-- the cursors without the one of this name
abbrev pub closed_from : List CursorState → List ℕ → List CursorState
closed_from [] name = []
closed_from (cursor ∷ cursors) name =
    if bytes_eq cursor.name name then cursors else cursor ∷ closed_from cursors name

-- Caches.

-- the plan cache of the statement of this number
abbrev pub cache_at : List CacheState → ℕ → CacheState
cache_at caches number = slice_index_or caches number empty_cache

-- the caches once this table has changed: that of each statement that reads it is cleared
abbrev pub cleared_for : List ℕ → List StatementState → List CacheState → List CacheState
cleared_for table [] caches = []
cleared_for table (prepared ∷ others) [] = []
cleared_for table (prepared ∷ others) (cache ∷ caches) =
    (if reads_table table prepared.statement.places then cleared cache else cache) ∷ cleared_for table others caches
