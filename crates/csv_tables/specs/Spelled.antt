-- The table that bytes spell, or the first fault.
use Rattle.std.specs.Prelude.{ℕ, suc, ◌*◌, ◌==◌, nat_lt, Bool, if◌then◌else◌, List, [], ◌∷◌, length, map, option_map}
use Rattle.std.specs.Prelude.{Option, None, Some, Result, Ok, Err}
use Rattle.row_values.specs.declared.columns.TheConstants.{COLUMN_LIMIT}
use Rattle.csv_tables.specs.Cells.{bad_column, columns_from, values_from}
use Rattle.csv_tables.specs.Headers.{bad_name, heading_of, name_of}
use Rattle.csv_tables.specs.Reading.{records_of}
use Rattle.csv_tables.specs.Tables.{TableValue}
use Rattle.csv_tables.specs.declared.faults.TableFault.{TableFault}
use Rattle.csv_tables.specs.declared.faults.TableFault.TheVariants.{Columns, BadHeader, Rows, Cells, NotCsv, BadCell}
use Rattle.csv_tables.specs.declared.header.Heading.{Heading}
use Rattle.csv_tables.specs.declared.table.TheConstants.{CELL_LIMIT, ROW_LIMIT}

-- a fault where this holds
abbrev pub fault_if : Bool → TableFault → Option TableFault
fault_if holds fault = if holds then Some fault else None

-- the number of the first of these rows that isn't as long as the header; the first row's is n
abbrev pub uneven_row : ℕ → ℕ → List (List (List ℕ)) → Option ℕ
uneven_row n width [] = None
uneven_row n width (row ∷ rows) = if length row == width then uneven_row (suc n) width rows else Some n

-- a bad cell of this row, or else one further down
abbrev pub cell_in_row : ℕ → Option ℕ → Option (ℕ × ℕ) → Option (ℕ × ℕ)
cell_in_row n None below = below
cell_in_row n (Some column) below = Some (n, column)

-- the numbers of the first of these rows with a cell that may not stand there, and of that cell's column
abbrev pub bad_cell : ℕ → List Heading → List (List (List ℕ)) → Option (ℕ × ℕ)
bad_cell n headings [] = None
bad_cell n headings (row ∷ rows) = cell_in_row n (bad_column 0 headings row) (bad_cell (suc n) headings rows)

-- the faults of a header and data rows, in the order in which they count
abbrev pub faults_of : List (List ℕ) → List (List (List ℕ)) → List (Option TableFault)
faults_of header rows =
    fault_if (nat_lt COLUMN_LIMIT (length header)) Columns
    ∷ option_map BadHeader (bad_name 1 [] (map name_of header))
    ∷ fault_if (nat_lt ROW_LIMIT (length rows)) Rows
    ∷ fault_if (nat_lt CELL_LIMIT (length rows * length header)) Cells
    ∷ option_map NotCsv (uneven_row 1 (length header) rows)
    ∷ option_map (λ at. BadCell at.0 at.1) (bad_cell 1 (map heading_of header) rows)
    ∷ []

-- the first fault that holds
abbrev pub first_of : List (Option TableFault) → Option TableFault
first_of [] = None
first_of (None ∷ faults) = first_of faults
first_of (Some fault ∷ faults) = Some fault

-- the table under a header
abbrev pub table_under : List (List ℕ) → List (List (List ℕ)) → TableValue
table_under header rows =
    let columns = columns_from 0 (map heading_of header) rows in
    record { schema = columns; rows = map (values_from 0 columns) rows }

abbrev pub unless : Option TableFault → TableValue → Result TableValue TableFault
unless None table = Ok table
unless (Some fault) table = Err fault

-- the table that records spell, the first of which is the header
abbrev pub table_of_records : List (List (List ℕ)) → Result TableValue TableFault
table_of_records [] = Err (BadHeader 1)
table_of_records (header ∷ rows) = unless (first_of (faults_of header rows)) (table_under header rows)

-- the table that the bytes of a file spell, or the first fault
unfoldable pub table_of : List ℕ → Result TableValue TableFault
table_of bytes = table_of_records (records_of bytes)
