-- Open cursors as the engine keeps them: result rows that wait, beside what the store holds for them.
use Rattle.std.specs.Prelude.{ℕ, ◌≡◌, ◌≤◌, ◌<◌, ◌+◌, List, [], ◌∷◌, drop, length, map, slice_get, Some}
use Rattle.std.specs.Option.{option_map, option_map_or}
use Rattle.row_values.specs.Statements.{Statement}
use Rattle.statement_meaning.specs.Spelling.{row_line}
use Rattle.result_shape.specs.Rows.{rows_seen}
use Rattle.result_shape.specs.declared.rows.Rows.{Rows}
use Rattle.catalog_model.specs.Catalogs.{StatementState}
use Rattle.catalog_model.specs.Held.{HeldCursor}
use Rattle.session_model.specs.State.{CursorState}
use Rattle.session_model.specs.declared.TheConstants.{RESULT_LIMIT}
use Rattle.session_engine.specs.declared.waiting.Waiting.{Waiting}

-- the lines of result rows
abbrev pub lines_of : Statement → Rows → List (List ℕ)
lines_of q rows = map row_line (rows_seen q rows)

-- of so many rows, the position behind so many from this one on, or behind all
pub record IsEnd (first count rows end : ℕ) : Type 0 where
  pub inside : first + count ≤ rows → end ≡ first + count
  pub past : rows < first + count → end ≡ rows

-- the row lines that weren't fetched yet, by the statement of the rows
abbrev pub lines_waiting : List StatementState → Waiting → List (List ℕ)
lines_waiting statements waiting =
    option_map_or (λ prepared. drop waiting.fetched (lines_of prepared.statement waiting.rows))
    (slice_get statements waiting.statement) []

-- the open cursors: what each holds, and the row lines that wait in it
abbrev pub cursors_with : List StatementState → List HeldCursor → List Waiting → List CursorState
cursors_with statements [] rows = []
cursors_with statements (cursor ∷ cursors) [] = []
cursors_with statements (cursor ∷ cursors) (waiting ∷ rows) =
    record { name = cursor.name; held = cursor.held; lines = lines_waiting statements waiting }
    ∷ cursors_with statements cursors rows

-- the rows are those of a statement that is there, and within the limit
pub record IsWaiting (statements : List StatementState) (waiting : Waiting) : Type 0 where
  pub statement : Statement
  pub there : option_map (λ prepared. prepared.statement) (slice_get statements waiting.statement) ≡ Some statement
  pub few : length (rows_seen statement waiting.rows) ≤ RESULT_LIMIT
