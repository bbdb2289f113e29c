-- A statement, or an open cursor, looked up by its name.
use Rattle.std.specs.Prelude.{ℕ, ◌≡◌, List, Some, None, Result, Ok, Err}
use Rattle.row_values.specs.Names.{canonical_name}
use Rattle.row_values.specs.Refusals as refused
use Rattle.row_values.specs.declared.refusals.Refusal.{Refusal}
use Rattle.catalog_model.specs.Catalogs.{StatementState, number_of}
use Rattle.catalog_model.specs.Held.{HeldCursor, cursor_number}

-- its number; or the refusal, where there is none of this name
abbrev pub Numbers : List StatementState → List ℕ → Result ℕ Refusal → Type 0
Numbers statements name (Ok number) = number_of statements name ≡ Some number
Numbers statements name (Err why) = (number_of statements name ≡ None)
    × (why ≡ refused.unknown_statement (canonical_name name))

-- the same of the open cursors
abbrev pub NumbersCursor : List HeldCursor → List ℕ → Result ℕ Refusal → Type 0
NumbersCursor cursors name (Ok number) = cursor_number cursors name ≡ Some number
NumbersCursor cursors name (Err why) = (cursor_number cursors name ≡ None)
    × (why ≡ refused.unknown_cursor (canonical_name name))
