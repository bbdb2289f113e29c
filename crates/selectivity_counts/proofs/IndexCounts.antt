-- What an index counts is what the rows of its table count.
use Rattle.std.proofs.Common.{ℕ, suc, arith, ◌≤◌, ◌≡◌, Bool, true, false, cond, List, [], ◌∷◌, length, map, ap, sym, subst, ◌∙◌, refl}
use Rattle.std.specs.Prelude.{IsPermutation, Option, filter, slice_get}
use Rattle.std.proofs.lemmas.List.Sorted.{sum_by-IsPermutation}
use Rattle.std.proofs.lemmas.List.Sums.{count_by-le-length, length-filter}
use Rattle.row_values.specs.RowNumbers.{row_numbers}
use Rattle.row_values.specs.declared.statement.Pred.{Pred}
use Rattle.row_values.specs.declared.values.Value.{Value}
use Rattle.csv_tables.specs.Tables.{TableValue, cell_at}
use Rattle.statement_meaning.specs.Conditions.{holds, meets}
use Rattle.statement_meaning.specs.Vectors.{matching}
use Rattle.table_index.proofs.ColumnCells.{cells_by_row}
use Rattle.table_index.specs.Indexes.{IndexValue, IsBuilt}

pub own_built : (table : TableValue) (column : ℕ) (index : IndexValue) → IsBuilt table column index
    → IsBuilt table index.column index
own_built table column index b =
    subst (λ (k : ℕ). IsBuilt table k index) (sym b.column_is) b

-- as many of what is mapped pass as of what maps to it
filter_length : {X Y : Type 0} (f : X → Y) (p : Y → Bool) (xs : List X)
    → length (filter (λ x. p (f x)) xs) ≡ length (filter p (map f xs))
filter_length f p [] = refl
filter_length {X = X} {Y = Y} f p (x ∷ xs) = by_test (p (f x)) (filter_length f p xs)
  where
    by_test : (b : Bool) → length (filter (λ x. p (f x)) xs) ≡ length (filter p (map f xs))
        → length (cond b (x ∷ filter (λ x. p (f x)) xs) (filter (λ x. p (f x)) xs))
        ≡ length (cond b (f x ∷ filter p (map f xs)) (filter p (map f xs)))
    by_test true e = ap suc e
    by_test false e = e

-- an order of the rows doesn't change how many pass
same_length : {X : Type 0} (p : X → Bool) (xs ys : List X) → IsPermutation xs ys
    → length (filter p ys) ≡ length (filter p xs)
same_length p xs ys moved =
    length-filter p ys
    ∙ (sum_by-IsPermutation (λ x. cond (p x) 1 0) xs ys moved ∙ sym (length-filter p xs))

pub counted_by_index : (args : List Value) (table : TableValue) (pred : Pred) (index : IndexValue)
    → IsBuilt table pred.at.column index
    → length (filter (λ row. meets args pred.test (cell_at table row index.column)) index.rows)
    ≡ matching args pred table.rows
counted_by_index args table pred index b =
    ap (λ (k : ℕ). length (filter (λ row. meets args pred.test (cell_at table row k)) index.rows)) b.column_is
    ∙ (same_length (λ row. meets args pred.test (cell_at table row pred.at.column)) (row_numbers (length table.rows))
    index.rows b.rows_are.each_once
    ∙ (filter_length (λ row. cell_at table row pred.at.column) (meets args pred.test) (row_numbers (length table.rows))
    ∙ (ap (λ (cells : List (Option Value)). length (filter (meets args pred.test) cells))
    (cells_by_row table pred.at.column)
    ∙ sym (filter_length (λ (row : List Value). slice_get row pred.at.column) (meets args pred.test) table.rows))))

pub index_bound : (args : List Value) (table : TableValue) (pred : Pred) (index : IndexValue) (count : ℕ)
    → IsBuilt table pred.at.column index
    → count ≡ length (filter (λ row. meets args pred.test (cell_at table row index.column)) index.rows)
    → count ≤ length table.rows
index_bound args table pred index count b e =
    omega (
      arith,
      e ∙ counted_by_index args table pred index b,
      length-filter (holds args pred) table.rows,
      count_by-le-length (holds args pred) table.rows,
    )
