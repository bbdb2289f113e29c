-- Where a table has no cell.
use Rattle.std.proofs.Common.{ℕ, ◌≡◌, ◌<◌, ◌≤◌, suc, zero, List, [], ◌∷◌, length, get_or, map, ap, sym, ◌∙◌, arith}
use Rattle.std.proofs.Common.{refl, ◌⊎◌, inl, inr}
use Rattle.std.specs.Prelude.{slice_get, false, None, Option, Some}
use Rattle.std.proofs.lemmas.Bool.{cases_lt}
use Rattle.std.proofs.lemmas.List.{get_or_past, length-map}
use Rattle.row_values.specs.Values.{kind_of}
use Rattle.row_values.specs.declared.columns.Column.{Column}
use Rattle.row_values.specs.declared.values.Value.{Value}
use Rattle.row_values.specs.declared.statement.Operand.{Operand}
use Rattle.row_values.specs.declared.statement.Test.{Test}
use Rattle.row_values.specs.declared.statement.Test.TheVariants.{Lt, Le, Gt, Ge, Eq, Between, OneOf}
use Rattle.statement_meaning.specs.Conditions.{equals_one, meets}
use Rattle.csv_tables.specs.Tables.{IsTable, TableValue, column_kinds}

slice_get_past : (row : List Value) (column : ℕ) → length row ≤ column → None ≡ slice_get row column
slice_get_past [] column h = refl
slice_get_past (cell ∷ row) zero h = absurd (omega (arith, h))
slice_get_past (cell ∷ row) (suc column) h = slice_get_past row column (omega (arith, h))

pub no_row : (rows : List (List Value)) (row column : ℕ) → length rows ≤ row
    → None ≡ slice_get (get_or rows row []) column
no_row rows row column h = ap (λ (cells : List Value). slice_get cells column) (sym (get_or_past rows row [] h))

same_width : (row : List Value) (schema : List Column) → map kind_of row ≡ column_kinds schema
    → length row ≡ length schema
same_width row schema h = sym (length-map row kind_of) ∙ (ap length h ∙ length-map schema (λ column. column.kind))

pub no_column : (table : TableValue) (row column : ℕ) → IsTable table → length table.schema ≤ column
    → None ≡ slice_get (get_or table.rows row []) column
no_column table row column t h = by_row (cases_lt row (length table.rows))
  where
    by_row : (row < length table.rows) ⊎ (length table.rows ≤ row) → None ≡ slice_get (get_or table.rows row []) column
    by_row (inl there) =
        slice_get_past (get_or table.rows row []) column
        (omega (arith, h, same_width (get_or table.rows row []) table.schema (t.fits row [] there)))
    by_row (inr past) = no_row table.rows row column past

-- a cell that isn't there meets no test

equals_none : (args : List Value) (operands : List Operand) → false ≡ equals_one args None operands
equals_none args [] = refl
equals_none args (a ∷ operands) = equals_none args operands

meets_none : (args : List Value) (test : Test) → false ≡ meets args test None
meets_none args (Lt a) = refl
meets_none args (Le a) = refl
meets_none args (Gt a) = refl
meets_none args (Ge a) = refl
meets_none args (Eq a) = refl
meets_none args (Between a b) = refl
meets_none args (OneOf operands) = equals_none args operands

pub no_cell_meets : (args : List Value) (test : Test) (cell : Option Value) → None ≡ cell → false ≡ meets args test cell
no_cell_meets args test None e = meets_none args test
no_cell_meets args test (Some value) e = cc
