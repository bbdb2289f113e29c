-- What bytes spell is a table.
use Rattle.std.proofs.Common.{◌≡◌, ◌∙◌, ℕ, List, [], ◌∷◌, length, map, Option, None, Some, Ok, refl, subst}
use Rattle.std.proofs.lemmas.List.{length-map}
use Rattle.csv_tables.specs.Cells.{columns_from}
use Rattle.csv_tables.specs.Headers.{heading_of}
use Rattle.csv_tables.specs.Reading.{records_of}
use Rattle.csv_tables.specs.Spelled.{faults_of, first_of, table_of, table_of_records, table_under, unless}
use Rattle.csv_tables.specs.Tables.{IsTable, TableValue}
use Rattle.csv_tables.specs.declared.faults.TableFault.{TableFault}
use Rattle.csv_tables.proofs.Sound.{is_kept, is_schema, length-columns_from, rows_of_cells}
use Rattle.csv_tables.proofs.Spelled.{no_fault}

-- a header and rows without a fault
faultless_table : (header : List (List ℕ)) (rows : List (List (List ℕ))) → first_of (faults_of header rows) ≡ None
    → IsTable (table_under header rows)
faultless_table header rows none =
    let f = no_fault header rows none in
    let columns = columns_from 0 (map heading_of header) rows in
    let width : length columns ≡ length header =
    length-columns_from 0 (map heading_of header) rows ∙ length-map header heading_of in
    let kept = is_kept columns rows (is_schema header rows f) f.rows_few (rw width f.cells) in
    rw (rows_of_cells columns rows) at kept.sound

without_fault : (fault : Option TableFault) (wanted table : TableValue) → unless fault wanted ≡ Ok table
    → (fault ≡ None) × (wanted ≡ table)
without_fault None wanted table h = (refl, cc)
without_fault (Some fault) wanted table h = cc

records_table : (records : List (List (List ℕ))) (table : TableValue) → table_of_records records ≡ Ok table
    → IsTable table
records_table [] table h = cc
records_table (header ∷ rows) table h =
    let u = without_fault (first_of (faults_of header rows)) (table_under header rows) table h in
    subst IsTable u.1 (faultless_table header rows u.0)

pub spelled_table : (bytes : List ℕ) (table : TableValue) → table_of bytes ≡ Ok table → IsTable table
unfolding table_of
spelled_table bytes table h = records_table (records_of bytes) table h
