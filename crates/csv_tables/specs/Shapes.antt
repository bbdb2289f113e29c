-- The shape of a file: how many fields its records have.
use Rattle.std.specs.Prelude.{◌≡◌, ℕ, List, [], ◌∷◌, length, None, Some}
use Rattle.csv.specs.declared.parser.Action.{Action}
use Rattle.csv.specs.declared.parser.Action.TheVariants as act
use Rattle.csv.specs.declared.parser.State.{State}
use Rattle.csv.specs.declared.parser.State.TheVariants as st
use Rattle.csv_tables.specs.Spelled.{uneven_row}
use Rattle.csv_tables.specs.declared.shape.End.{End}
use Rattle.csv_tables.specs.declared.shape.End.TheVariants as end
use Rattle.csv_tables.specs.declared.shape.ScanState.{ScanState}
use Rattle.csv_tables.specs.declared.shape.ScanState.TheVariants as scan
use Rattle.csv_tables.specs.declared.shape.Shape.{Shape}

-- the state of the crate's machine at a state of the scan
abbrev pub state_at : ScanState → State
state_at scan.StartRecord = st.StartRecord
state_at scan.StartField = st.StartField
state_at scan.InField = st.InField
state_at scan.InQuoted = st.InQuoted
state_at scan.AfterQuote = st.AfterQuote
state_at scan.AfterReturn = st.AfterCr

-- what an action of the machine ends
abbrev pub end_of : Action → End
end_of act.Skip = end.Nothing
end_of act.Copy = end.Nothing
end_of act.EndField = end.Field
end_of act.EndRecord = end.Record

-- the shape of rows under a header of this width
pub record IsShapeOf (width : ℕ) (rows : List (List (List ℕ))) (shape : Shape) : Type 0 where
  pub column_count : shape.column_count ≡ Some width
  pub row_count : shape.row_count ≡ length rows
  pub uneven : shape.uneven ≡ uneven_row 1 width rows

-- the shape of these records, of which the first is the header
abbrev pub IsShape : List (List (List ℕ)) → Shape → Type 0
IsShape [] shape = shape.column_count ≡ None
IsShape (header ∷ rows) shape = IsShapeOf (length header) rows shape
