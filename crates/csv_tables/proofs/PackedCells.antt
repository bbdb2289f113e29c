-- The packed numbers of a column are its cells.
use Rattle.std.proofs.Common.{◌≡◌, ◌<◌, ◌≤◌, ◌⊎◌, inl, inr, ℕ, ℤ, ◌+◌, ◌*◌, List, [], ◌∷◌, ◌++◌, get_or, length, map}
use Rattle.std.proofs.Common.{Option, None, Some, refl, sym, ap, ◌∙◌, pos, arith}
use Rattle.std.specs.List.{slice_get}
use Rattle.std.specs.Option.{option_map}
use Rattle.std.proofs.lemmas.Bool.{cases_lt}
use Rattle.std.proofs.lemmas.List.{get_or_append_left, get_or_push, length-map, length_push}
use Rattle.std.proofs.lemmas.Option.{same_Some, slice_get-get_or, slice_get-map, slice_get_past, slice_get_within}
use Rattle.row_values.specs.Values.{kind_of}
use Rattle.row_values.specs.declared.columns.Column.{Column}
use Rattle.row_values.specs.declared.values.Kind.{Kind}
use Rattle.row_values.specs.declared.values.Value.{Value}
use Rattle.row_values.specs.declared.values.Value.TheVariants.{Int}
use Rattle.csv_tables.specs.Tables.{AreNumbers, IsKept, IsTable, TableValue, cell_at, column_kinds, rows_of}
use Rattle.csv_tables.specs.Tables.{table_of_cells, value_in}
use Rattle.csv_tables.proofs.Rows.{cell_in_rows, length-rows_of}

-- a column that has a kind is in range
pub column_in_range : (schema : List Column) (column : ℕ) (k : Kind) → slice_get (column_kinds schema) column ≡ Some k
    → column < length schema
column_in_range schema column k h =
    rw (length-map schema (λ column. column.kind)) at (slice_get_within (column_kinds schema) column k h)

-- a cell of a table is one of its column's kind
pub cell_fits : (table : TableValue) → IsTable table → (row column : ℕ) (k : Kind) (x : Value) → row < length table.rows
    → slice_get (column_kinds table.schema) column ≡ Some k → cell_at table row column ≡ Some x → kind_of x ≡ k
cell_fits table t row column k x inside is at =
    let here : slice_get (get_or table.rows row []) column ≡ Some x =
    ap (λ (r : Option (List Value)). value_in r column) (sym (slice_get-get_or table.rows row [] inside)) ∙ at in
    let mapped = slice_get-map kind_of (get_or table.rows row []) column in
    let kinds : map kind_of (get_or table.rows row []) ≡ column_kinds table.schema = t.fits row [] inside in
    same_Some (kind_of x) k
    (sym (ap (option_map kind_of) here) ∙ (sym mapped ∙ (ap (λ (ks : List Kind). slice_get ks column) kinds ∙ is)))

-- the same of a cell in the list of all cells
pub kept_fits : (schema : List Column) (count : ℕ) (cells : List Value) → IsKept schema count cells
    → (row column : ℕ) (k : Kind) (x : Value) → row < count
    → slice_get (column_kinds schema) column ≡ Some k → slice_get cells (row * length schema + column) ≡ Some x
    → kind_of x ≡ k
kept_fits schema count cells kept row column k x inside is at =
    cell_fits (table_of_cells schema count cells) kept.sound row column k x
    (rw (length-rows_of count (length schema) cells) inside) is
    (cell_in_rows count (length schema) cells row column inside (column_in_range schema column k is) ∙ at)

-- numbers that are read from a column, row by row
pub record AreRead (all : List Value) (width column rows : ℕ) (numbers : List ℤ) : Type 0 where
  pub count : length numbers ≡ rows
  pub cells : (row : ℕ) (d : ℤ) → row < rows → slice_get all (row * width + column) ≡ Some (Int (get_or numbers row d))

pub read_more : (cells : List Value) (width column rows : ℕ) (numbers : List ℤ) (x : ℤ)
    → AreRead cells width column rows numbers
    → slice_get cells (rows * width + column) ≡ Some (Int x) → AreRead cells width column (rows + 1) (numbers ++ x ∷ [])
read_more all width column rows numbers x r at = record {
  count = length_push numbers x ∙ ap (λ (n : ℕ). n + 1) r.count;
  cells = λ row d inside. by_row row d inside (cases_lt row rows);
}
  where
    by_row : (row : ℕ) (d : ℤ) → row < rows + 1 → (row < rows) ⊎ (rows ≤ row)
        → slice_get all (row * width + column) ≡ Some (Int (get_or (numbers ++ x ∷ []) row d))
    by_row row d inside (inl h) = rw (get_or_append_left numbers (x ∷ []) d row (rw r.count h)) (r.cells row d h)
    by_row row d inside (inr h) =
        let last : row ≡ rows = omega arith in
        rw (last, get_or_push numbers x d rows r.count) at

pub all_read : (schema : List Column) (count : ℕ) (cells : List Value) (column : ℕ) (numbers : List ℤ)
    → column < length schema
    → AreRead cells (length schema) column count numbers → AreNumbers (table_of_cells schema count cells) column numbers
all_read schema count all column numbers inside r = record {
  count = r.count ∙ sym (length-rows_of count (length schema) all);
  cells = λ row. by_row row (cases_lt row count);
}
  where
    by_row : (row : ℕ) → (row < count) ⊎ (count ≤ row)
        → cell_at (table_of_cells schema count all) row column ≡ option_map Int (slice_get numbers row)
    by_row row (inl h) =
        let d : ℤ = get_or numbers row (pos 0) in
        cell_in_rows count (length schema) all row column h inside
        ∙ (r.cells row d h ∙ ap (option_map Int) (sym (slice_get-get_or numbers row d (rw r.count h))))
    by_row row (inr h) =
        let past : slice_get (rows_of count (length schema) all) row ≡ None =
        slice_get_past (rows_of count (length schema) all) row (rw (length-rows_of count (length schema) all) h) in
        let none : slice_get numbers row ≡ None = slice_get_past numbers row (rw r.count h) in
        rw (past, none) refl
