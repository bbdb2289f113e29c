-- The columns of a table, packed one after the other.
use Rattle.std.proofs.Common.{◌≡◌, ◌<◌, ◌≤◌, ◌⊎◌, inl, inr, ℕ, ℤ, ◌+◌, List, [], ◌∷◌, ◌++◌, get_or, length, Some, refl}
use Rattle.std.proofs.Common.{ap, ◌∙◌, arith}
use Rattle.std.specs.List.{slice_get}
use Rattle.std.proofs.lemmas.Bool.{cases_lt}
use Rattle.std.proofs.lemmas.List.{get_or_append_left, get_or_push, length_push}
use Rattle.std.specs.Option.{option_map}
use Rattle.std.proofs.lemmas.Option.{slice_get-get_or, slice_get-map, slice_get_read}
use Rattle.row_values.specs.declared.columns.Column.{Column}
use Rattle.row_values.specs.declared.values.Kind.{Kind}
use Rattle.row_values.specs.declared.values.Kind.TheVariants as kind
use Rattle.csv_tables.specs.Tables.{AreNumbers, ArePacked, TableValue, column_kinds}
use Rattle.csv_tables.proofs.PackedCells.{column_in_range}

-- the kind of a column that was read
pub kind_at : (schema : List Column) (column : ℕ) (x : Column) → column < length schema → x ≡ get_or schema column x
    → slice_get (column_kinds schema) column ≡ Some x.kind
kind_at schema column x inside is =
    slice_get-map (λ (column : Column). column.kind) schema column
    ∙ ap (option_map (λ (column : Column). column.kind)) (slice_get_read schema (length schema) column x refl inside is)

-- the same, where its kind alone was read
pub kind_read : (schema : List Column) (column : ℕ) (d : Column) (k : Kind) → column < length schema
    → (get_or schema column d).kind ≡ k
    → slice_get (column_kinds schema) column ≡ Some k
kind_read schema column d k inside is =
    slice_get-map (λ (column : Column). column.kind) schema column
    ∙ (ap (option_map (λ (column : Column). column.kind)) (slice_get-get_or schema column d inside) ∙ ap Some is)

-- the columns below this one are packed
pub record ArePackedSoFar (table : TableValue) (columns : ℕ) (packed : List (List ℤ)) : Type 0 where
  pub one_each : length packed ≡ columns
  pub numbers : (column : ℕ) → column < columns → slice_get (column_kinds table.schema) column ≡ Some kind.Int
      → AreNumbers table column (get_or packed column [])

pub packed_more : (table : TableValue) (columns : ℕ) (packed : List (List ℤ)) (numbers : List ℤ)
    → ArePackedSoFar table columns packed
    → (slice_get (column_kinds table.schema) columns ≡ Some kind.Int → AreNumbers table columns numbers)
    → ArePackedSoFar table (columns + 1) (packed ++ numbers ∷ [])
packed_more table columns packed numbers p next = record {
  one_each = length_push packed numbers ∙ ap (λ (n : ℕ). n + 1) p.one_each;
  numbers = λ column inside is. by_column column inside is (cases_lt column columns);
}
  where
    by_column : (column : ℕ) → column < columns + 1 → slice_get (column_kinds table.schema) column ≡ Some kind.Int
        → (column < columns) ⊎ (columns ≤ column)
        → AreNumbers table column (get_or (packed ++ numbers ∷ []) column [])
    by_column column inside is (inl h) =
        rw (get_or_append_left packed (numbers ∷ []) [] column (rw p.one_each h)) (p.numbers column h is)
    by_column column inside is (inr h) =
        let last : column ≡ columns = omega arith in
        rw (last, get_or_push packed numbers [] columns p.one_each) (next (rw last at is))

pub all_packed : (table : TableValue) (columns : ℕ) (packed : List (List ℤ)) → columns ≡ length table.schema
    → ArePackedSoFar table columns packed → ArePacked table packed
all_packed table columns packed e p = record {
  one_each = p.one_each ∙ e;
  numbers = λ column is. p.numbers column (rw e (column_in_range table.schema column kind.Int is)) is;
}
